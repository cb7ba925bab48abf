-- Networks: each call keeps what the tables show, and is replied to alike.
use Rattle.std.proofs.lemmas.Grind.{common_steps}
use Rattle.std.proofs.Common.{◌≡◌, ℕ, zero, suc, ◌+◌, ◌^◌, ◌<◌, ◌≤◌, Bool, true, false, cond, eqb, ltb, leb, List, [], ◌∷◌, Some, None, Option, sym, refl, ap, ◌∙◌, subst, inl, inr, arith}
use Rattle.std.proofs.lemmas.Bool.{cases_lt, ltb-true, leb-true, eqb-true, le-ltb, not-true, and_parts, cond-false}
use Rattle.std.proofs.lemmas.List.{get_or-map, length-map, length-replicate}
use Rattle.schedule.specs.Plan.{Plan, flow_count}
use Rattle.schedule.specs.Limits.{unless}
use Rattle.gates.specs.Timetable.{Transition, steady, pending, replaced, timetable}
use Rattle.network.specs.Lawful.{Meaning, port_count}
use Rattle.network.specs.Flows.{released_at, is_under_way}
use Rattle.network.specs.Ports.{empty_port, line_length, carried}
use Rattle.network.specs.Calls.{Machine, Network, Call, offer, queue, read_record, read_wire, advance, change, settle, recorded, carries, now_is, changes_at, in_order, offer_refused, queue_refused, advance_refused, change_tick, same_links, change_refused, settle_refused, switched, tick, ticks, refusal, done, result, reply, after, run, replies}
use Rattle.network.specs.Functions.{Core, ticked, afresh, functions, new}
use Rattle.network.specs.Tables.{Tables, blank, fresh_tables, tables, new_tables}
use Rattle.network.specs.Shows.{Shows, TablesShow}
use Rattle.network.proofs.Places.{or_at}
use Rattle.network.proofs.Accepted.{passes}
use Rattle.network.proofs.Alike.{Alike, blank_shows, ticked_alike, offered_alike, lined_alike, fresh_alike}

-- a plan that is to come has as many ports
abbrev Fits : Plan → Transition → Type 0
Fits P steady = Unit {0}
Fits P (pending Q T) = port_count Q ≡ port_count P
Fits P (replaced O A) = Unit {0}

-- a network, of its parts
abbrev whole : {X : Type 0} → Plan × ℕ × Transition → X → Network X
whole c x = record { plan = c.0; base = c.1; transition = c.2; core = x }

-- what is in force in a network
abbrev force : {X : Type 0} → Network X → Plan × ℕ × Transition
force n = (n.plan, n.base, n.transition)

-- the same is in force in both, and what the tables show of the rest they show
record Like {S : Type 0} (n : Network (Tables S)) (m : Network (Core S)) : Type 0 where
  same : force n ≡ force m
  alike : Alike m.plan n.core m.core
  fits : Fits m.plan m.transition

-- so one may take what is in force to be the same
level : {S : Type 0} (C : Network (Tables S) → Network (Core S) → Type 0) → ((c : Plan × ℕ × Transition) (x : Tables S) (y : Core S) → Alike c.0 x y → Fits c.0 c.2 → C (whole c x) (whole c y))
    → (n : Network (Tables S)) (m : Network (Core S)) → Like n m → C n m
level C g n m l = subst (λ (c : Plan × ℕ × Transition). C (whole c n.core) m) (sym l.same) (g (force m) n.core m.core l.alike l.fits)

both_like : {S : Type 0} (b : Bool) (n n' : Network (Tables S)) (m m' : Network (Core S)) → Like n m → Like n' m' → Like (cond b n n') (cond b m m')
both_like true n n' m m' l l' = l
both_like false n n' m m' l l' = l'

fails : (b : Bool) (k : ℕ) (o o' : Option ℕ) → b ≡ false → unless b k o ≡ unless b k o'
fails b k o o' e = cond-false b o (Some k) e ∙ sym (cond-false b o' (Some k) e)

module _ {S : Type 0} (ρ : ℕ → ℕ → ℕ) (K : Meaning S) where
  abbrev M : Machine (Tables S)
  M = tables ρ K

  abbrev F : Machine (Core S)
  F = functions ρ K

  switched_like : (P : Plan) (B : ℕ) (tr : Transition) (x : Tables S) (y : Core S) → Alike P x y → Fits P tr → Like (switched M P B tr x) (switched F P B tr y)
  switched_like P B steady x y a fit = record { same = refl; alike = a; fits = fit }
  switched_like P B (pending Q T) x y a fit =
      let after : Network (Tables S) = whole (Q, T, replaced P B) (fresh_tables Q x) in
      let before : Network (Tables S) = whole (P, B, pending Q T) x in
      subst (λ t. Like (cond (eqb t T) after before) (switched F P B (pending Q T) y)) (sym a.now)
      (both_like (eqb y.now T) after before (whole (Q, T, replaced P B) (afresh y)) (whole (P, B, pending Q T) y)
      (record { same = refl; alike = fresh_alike ρ K P x y a Q fit; fits = tt })
      (record { same = refl; alike = a; fits = fit }))
  switched_like P B (replaced O A) x y a fit = record { same = refl; alike = a; fits = fit }

  tick_like : (n : Network (Tables S)) (m : Network (Core S)) → Like n m → m.core.now < 2 ^ 48 → Like (tick M n) (tick F m)
  unfolding tick
  tick_like = level (λ n m. m.core.now < 2 ^ 48 → Like (tick M n) (tick F m))
      (λ c x y a fit h. switched_like c.0 c.1 c.2 _ _ (ticked_alike ρ K c.0 x y a (timetable c.0 c.1 c.2) h) fit)

  tick_now : (m : Network (Core S)) → (tick F m).core.now ≡ m.core.now + 1
  unfolding tick ticked afresh
  tick_now m = grind (arith, common_steps)

  ticks_like : (k : ℕ) (n : Network (Tables S)) (m : Network (Core S)) → Like n m → m.core.now + k ≤ 2 ^ 48
      → Like (ticks M k n) (ticks F k m) × ((ticks F k m).core.now ≡ m.core.now + k)
  ticks_like zero n m l h = (l, omega arith)
  ticks_like (suc k) n m l h =
      let (i, e) = ticks_like k n m l (omega arith) in
      (tick_like (ticks M k n) (ticks F k m) i (omega arith), omega (arith, tick_now (ticks F k m)))

  module _ (c : Plan × ℕ × Transition) (x : Tables S) (y : Core S) (a : Alike c.0 x y) (fit : Fits c.0 c.2) where
    abbrev n : Network (Tables S)
    n = whole c x

    abbrev m : Network (Core S)
    m = whole c y

    kept : Like n m
    kept = record { same = refl; alike = a; fits = fit }

    refusal_same : (q : Call) → refusal M n q ≡ refusal F m q
    refusal_same (offer f) = elim (cases_lt f (flow_count c.0)) [
      | inl h ↦ (λ i. offer_refused c.0 c.1 c.2 (a.now i) f ((a.rows f h).flight i))
      | inr h ↦ fails (ltb f (flow_count c.0)) 41 _ _ (le-ltb f (flow_count c.0) h)
    ]
    refusal_same (queue p k octets label) = elim (cases_lt p (port_count c.0)) [
      | inl h ↦ ap (queue_refused c.0 p k octets label) (or_at (line_length k) 0 x.ports p (y.port 0) (omega (arith, a.links)) ∙ ap (line_length k) (a.ports p (y.port 0) h))
      | inr h ↦ fails (ltb p (port_count c.0)) 44 _ _ (le-ltb p (port_count c.0) h)
    ]
    refusal_same (read_record f) = refl
    refusal_same (read_wire p) = refl
    refusal_same (advance k) = ap (λ t. advance_refused t k) a.now
    refusal_same (change Q A) = ap (λ t. change_refused c.0 c.1 t Q A (change_tick t Q A)) a.now
    refusal_same settle = ap (settle_refused c.0 c.1 c.2) a.now

    result_same : (q : Call) → refusal F m q ≡ None → result M n q ≡ result F m q
    result_same (offer f) e = refl
    result_same (queue p k octets label) e = refl
    result_same (read_record f) e =
        let s = a.rows f (ltb-true f (flow_count c.0) (passes (ltb f (flow_count c.0)) 41 None e).0) in
        λ i. recorded (record { accepted = s.accepted_count i; delivered = s.delivered_count i; transits = s.transits i; under_way = is_under_way (s.flight i) })
    result_same (read_wire p) e =
        let h = ltb-true p (port_count c.0) (passes (ltb p (port_count c.0)) 44 None e).0 in
        ap carries (or_at (carried x.now) None x.ports p (y.port 0) (omega (arith, a.links)) ∙ (λ i. carried (a.now i) (a.ports p (y.port 0) h i)))
    result_same (advance k) e = ap (λ t. now_is (t + k)) a.now
    result_same (change Q A) e = ap (λ t. changes_at (change_tick t Q A)) a.now
    result_same settle e = refl

    done_like : (q : Call) → refusal F m q ≡ None → Like (done M n q) (done F m q)
    done_like (offer f) e =
        let (h, u) = passes (ltb f (flow_count c.0)) 41 _ e in
        let (_, v) = passes _ 42 _ u in
        let (w, _) = passes _ 43 None v in
        record { same = refl; alike = offered_alike ρ K c.0 x y a f (ltb-true f (flow_count c.0) h) (not-true (released_at y.now (y.flight f)) w); fits = fit }
    done_like (queue p k octets label) e = record { same = refl; alike = lined_alike ρ K c.0 x y a p k (record { octets = octets; label = label }); fits = fit }
    done_like (read_record f) e = kept
    done_like (read_wire p) e = kept
    done_like (advance k) e =
        let (_, u) = passes (leb k 1250000) 51 _ e in
        let (w, _) = passes (leb (y.now + k) (2 ^ 48)) 52 None u in
        (ticks_like k n m kept (leb-true (y.now + k) (2 ^ 48) w)).0
    done_like (change Q A) e =
        let (s, _) = passes (same_links c.0 Q) 61 _ e in
        let (w, _) = and_parts (eqb (port_count Q) (port_count c.0)) _ s in
        record {
          same = (λ i. (c.0, c.1, pending Q (change_tick (a.now i) Q A)));
          alike = a;
          fits = eqb-true (port_count Q) (port_count c.0) w;
        }
    done_like settle e = record { same = refl; alike = a; fits = tt }

    reply_same : (q : Call) → reply M n q ≡ reply F m q
    reply_same q = grind (arith, common_steps, refusal_same, result_same)

    after_like : (q : Call) → Like (after M n q) (after F m q)
    after_like q = subst (λ (o : Option ℕ). Like (cond (in_order c.2 q) (elim o [ None ↦ done M n q | Some k ↦ n ]) n) (after F m q)) (sym (refusal_same q)) (by (refusal F m q) (done_like q))
      where
        by : (o : Option ℕ) → (o ≡ None → Like (done M n q) (done F m q))
            → Like (cond (in_order c.2 q) (elim o [ None ↦ done M n q | Some k ↦ n ]) n) (cond (in_order c.2 q) (elim o [ None ↦ done F m q | Some k ↦ m ]) m)
        by None e = both_like (in_order c.2 q) _ _ _ _ (e refl) kept
        by (Some k) e = both_like (in_order c.2 q) n n m m kept kept

  runs_like : (qs : List Call) (n : Network (Tables S)) (m : Network (Core S)) → Like n m → (replies M qs n ≡ replies F qs m) × Like (run M qs n) (run F qs m)
  runs_like [] n m l = (refl, l)
  runs_like (q ∷ qs) n m l =
      let e = level (λ n m. reply M n q ≡ reply F m q) (λ c x y a fit. reply_same c x y a fit q) n m l in
      let (es, k) = runs_like qs _ _ (level (λ n m. Like (after M n q) (after F m q)) (λ c x y a fit. after_like c x y a fit q) n m l) in
      (λ i. e i ∷ es i, k)

shows : {S : Type 0} (n : Network (Tables S)) (m : Network (Core S)) → Like n m → Shows n m
shows n m l = let a = l.alike in record {
  plan = ap (λ c. c.0) l.same;
  base = ap (λ c. c.1) l.same;
  transition = ap (λ c. c.2) l.same;
  now = a.now;
  flows = a.flows;
  links = a.links;
  rows = a.rows;
  ports = a.ports;
}

pub tables_show : {S : Type 0} → TablesShow S
tables_show {S} P B ρ K ss s h e same qs =
    let (r, l) = runs_like ρ K qs (new_tables P B ss) (new P B s) (record {
      same = refl;
      alike = record {
        now = refl;
        flows = length-replicate (flow_count P) blank;
        links = length-map ss empty_port ∙ e;
        rows = blank_shows (flow_count P);
        ports = λ p d h. get_or-map empty_port ss p (s p) d (omega arith) ∙ ap empty_port (same p (s p) (omega arith));
        near = omega arith;
        offers = λ f h. omega arith;
        deliveries = λ f h. omega arith;
      };
      fits = tt;
    }) in
    (r, shows _ _ l)
