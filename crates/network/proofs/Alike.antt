-- Frames and ports: the tables and the functions keep step.
use Rattle.std.proofs.lemmas.Grind.{common_steps}
use Rattle.std.proofs.Common.{◌≡◌, ℕ, suc, ◌+◌, ◌-◌, ◌^◌, ◌<◌, ◌≤◌, Bool, true, false, cond, eqb, ltb, List, [], ◌∷◌, map, length, get_or, replicate, Some, None, Option, sym, refl, ap, ◌∙◌, subst, inl, inr, arith}
use mathlib.Core.Path.{fun_ext}
use Rattle.std.proofs.lemmas.Bool.{cases_lt, cases_eq, lt-ltb, le-ltb, eq-eqb, ne_eqb, cond-true, cond-false}
use Rattle.std.proofs.lemmas.List.{get_or_past, get_or-map, length-map, length-replicate, get_or-replicate}
use Rattle.schedule.specs.Plan.{Plan, flow_count, port_at}
use Rattle.egress.specs.declared.ordinary.Frame.{Frame}
use Rattle.network.specs.declared.flight.Flight.{Flight}
use Rattle.network.specs.declared.flight.Flight.TheVariants.{Idle, Waiting}
use Rattle.network.specs.declared.row.Row.{Row}
use Rattle.network.specs.Lawful.{Meaning, port_count}
use Rattle.network.specs.Flows.{landed, arrives, span, departed, released_at, widened}
use Rattle.network.specs.Ports.{Port, at_place, with_frame, joined_by, joined, chosen, sent, flow_sent, passed}
use Rattle.network.specs.Functions.{Core, put, extremes, after_joining, choice, ticked, offered, afresh, functions}
use Rattle.network.specs.Tables.{Tables, blank, flight_in, counted, row_landed, row_departed, row_accepted, over, port_through, port_part, flow_part, ticked_tables, offered_table, fresh_tables, tables}
use Rattle.network.specs.Shows.{RowShows}
use Rattle.network.proofs.Keeps.{logged}
use Rattle.network.proofs.Overs.{length_over, over_at, listed_same}
use Rattle.network.proofs.Places.{length_place, place_at}

-- the tables show frames and ports of the flows and ports of a plan; and a flow has accepted at most one frame a tick, and delivered at most one, so that no count comes to its end
pub record Alike {S : Type 0} (P : Plan) (x : Tables S) (y : Core S) : Type 0 where
  pub now : x.now ≡ y.now
  pub flows : length x.rows ≡ flow_count P
  pub links : length x.ports ≡ port_count P
  pub rows : (f : ℕ) → f < flow_count P → RowShows (get_or x.rows f blank) (y.flight f) (y.accepted f) (y.arrived f)
  pub ports : (p : ℕ) (d : Port S) → p < port_count P → get_or x.ports p d ≡ y.port p
  pub near : y.now ≤ 2 ^ 48
  pub offers : (f : ℕ) → f < flow_count P → length (y.accepted f) ≤ y.now + cond (released_at y.now (y.flight f)) 1 0
  pub deliveries : (f : ℕ) → f < flow_count P → length (y.arrived f) ≤ y.now

counts_more : (n : ℕ) → n ≤ 2 ^ 48 + 1 → counted n ≡ suc n
counts_more n h = omega arith

delivered_same : (P : Plan) (t f : ℕ) (x : Flight) (l : List (ℕ × ℕ)) → length l ≤ 2 ^ 48 → cond (arrives P t f x) (counted (length l)) (length l) ≡ length (logged P t f x l)
delivered_same P t f x l h = grind (arith, common_steps)

delivered_more : (P : Plan) (t f : ℕ) (x : Flight) (l : List (ℕ × ℕ)) → length l ≤ t → length (logged P t f x l) ≤ t + 1
delivered_more P t f x l h = grind (arith, common_steps)

extremes_same : (P : Plan) (t f : ℕ) (x : Flight) (l : List (ℕ × ℕ)) → cond (arrives P t f x) (Some (widened (extremes l) ((span x).1 - (span x).0))) (extremes l) ≡ extremes (logged P t f x l)
extremes_same P t f x l = grind (arith, common_steps)

by_place : (j k : ℕ) (Q : Bool → Type 0) → (j ≡ k → Q true) → ((j ≡ k → ⊥) → Q false) → Q (eqb j k)
by_place j k Q u v = elim (cases_eq j k) [ inl e ↦ subst Q (sym (eq-eqb j k e)) (u e) | inr e ↦ subst Q (sym (ne_eqb j k e)) (v e) ]

pub blank_shows : (n f : ℕ) → f < n → RowShows (get_or (replicate n blank) f blank) Idle [] []
blank_shows n f h = subst (λ (r : Row). RowShows r Idle [] []) (sym (get_or-replicate n f blank blank h)) (record { flight = refl; accepted_count = refl; delivered_count = refl; transits = refl })

at_most_one : (b : Bool) → cond b 1 0 ≤ 1
at_most_one b = grind (arith, common_steps)

module _ {S : Type 0} (ρ : ℕ → ℕ → ℕ) (K : Meaning S) (P : Plan) (x : Tables S) (y : Core S) (a : Alike P x y) where
  module _ (σ : ℕ → ℕ → ℕ) (before : y.now < 2 ^ 48) where
    abbrev t : ℕ
    t = x.now

    abbrev G : ℕ → Port S → Port S × Option ℕ
    G p z = port_through K P t x.rows (σ p) (ρ p t) p z

    abbrev both : List (Port S × Option ℕ)
    both = over G 0 x.ports

    long : length both ≡ port_count P
    long = length_over G 0 x.ports ∙ a.links

    joined_same : (p : ℕ) (z : Port S) → z ≡ y.port p → joined P t (length x.rows) (flight_in x.rows) p z ≡ after_joining P y p
    joined_same p z e = grind (arith, common_steps, listed_same)

    both_at : (p : ℕ) (d : Port S) (o : Option ℕ) → p < port_count P → get_or both p (d, o) ≡ (passed P (σ p) K y.now (ρ p y.now) (sent P y.now (after_joining P y p) (choice ρ K P σ y p)), flow_sent (after_joining P y p) (choice ρ K P σ y p))
    unfolding port_through
    both_at p d o h =
        let j = joined_same p (get_or x.ports p d) (a.ports p d h) in
        let c : chosen P (σ p) K y.now (ρ p y.now) (after_joining P y p) ≡ choice ρ K P σ y p = sym (cond-true (ltb p (port_count P)) _ None (lt-ltb p (port_count P) h)) in
        over_at G x.ports p d (d, o) (omega (arith, a.links))
        ∙ (λ i. (passed P (σ p) K (a.now i) (ρ p (a.now i)) (sent P (a.now i) (j i) (chosen P (σ p) K (a.now i) (ρ p (a.now i)) (j i))), flow_sent (j i) (chosen P (σ p) K (a.now i) (ρ p (a.now i)) (j i))))
        ∙ ap (λ o. (passed P (σ p) K y.now (ρ p y.now) (sent P y.now (after_joining P y p) o), flow_sent (after_joining P y p) o)) c

    port_same : (p : ℕ) (d : Port S) → p < port_count P → get_or (map port_part both) p d ≡ (ticked ρ K P σ y).port p
    unfolding ticked
    port_same p d h = get_or-map port_part both p (d, None) d (omega (arith, long)) ∙ ap port_part (both_at p d None h)

    begun_same : (p : ℕ) → get_or (map flow_part both) p None ≡ flow_sent (after_joining P y p) (choice ρ K P σ y p)
    begun_same p = elim (cases_lt p (port_count P)) [
      | inl h ↦ get_or-map flow_part both p (y.port 0, None) None (omega (arith, long)) ∙ ap flow_part (both_at p (y.port 0) None h)
      | inr h ↦ get_or_past (map flow_part both) p None (omega (arith, long, length-map both flow_part))
          ∙ sym (ap (flow_sent (after_joining P y p)) (cond-false (ltb p (port_count P)) _ None (le-ltb p (port_count P) h)))
    ]

    abbrev R : ℕ → Row → Row
    R f r = row_departed P t (λ p. get_or (map flow_part both) p None) f (row_landed P t f r)

    row_same : (f : ℕ) → f < flow_count P → RowShows (get_or (over R 0 x.rows) f blank) ((ticked ρ K P σ y).flight f) ((ticked ρ K P σ y).accepted f) ((ticked ρ K P σ y).arrived f)
    unfolding ticked
    row_same f h =
        let s = a.rows f h in
        let e = over_at R x.rows f blank blank (omega (arith, a.flows)) in
        let go = fun_ext begun_same in
        record {
          flight = ap (λ (r : Row). r.flight) e ∙ (λ i. departed P (a.now i) (go i) f (landed P (a.now i) f (s.flight i)));
          accepted_count = ap (λ (r : Row). r.accepted) e ∙ s.accepted_count;
          delivered_count = ap (λ (r : Row). r.delivered) e ∙ (λ i. cond (arrives P (a.now i) f (s.flight i)) (counted (s.delivered_count i)) (s.delivered_count i))
              ∙ delivered_same P y.now f (y.flight f) (y.arrived f) (omega (arith, a.deliveries f h));
          transits = ap (λ (r : Row). r.transits) e ∙ (λ i. cond (arrives P (a.now i) f (s.flight i)) (Some (widened (s.transits i) ((span (s.flight i)).1 - (span (s.flight i)).0))) (s.transits i))
              ∙ extremes_same P y.now f (y.flight f) (y.arrived f);
        }

    pub ticked_alike : Alike P (ticked_tables ρ K P σ x) (ticked ρ K P σ y)
    unfolding ticked_tables ticked
    ticked_alike = record {
      now = ap (λ k. k + 1) a.now;
      flows = length_over R 0 x.rows ∙ a.flows;
      links = length-map both port_part ∙ long;
      rows = row_same;
      ports = port_same;
      near = omega arith;
      offers = λ f h. omega (arith, a.offers f h, at_most_one (released_at y.now (y.flight f)));
      deliveries = λ f h. delivered_more P y.now f (y.flight f) (y.arrived f) (a.deliveries f h);
    }

  place_ports : (k : ℕ) (g : Port S → Port S) (p : ℕ) (d : Port S) → p < port_count P → get_or (at_place k g x.ports) p d ≡ put k (g (y.port k)) y.port p
  place_ports k g p d h = grind (arith, common_steps, place_at, by_place)

  module _ (f : ℕ) (h : f < flow_count P) (fresh : released_at y.now (y.flight f) ≡ false) where
    few : length (y.accepted f) ≤ y.now
    few = let k = rw fresh at (a.offers f h) in omega arith

    offer_rows : (g : ℕ) → g < flow_count P → RowShows (get_or (at_place f (row_accepted x.now) x.rows) g blank) (put f (Waiting 0 y.now) y.flight g) (put f (y.now ∷ y.accepted f) y.accepted g) (y.arrived g)
    offer_rows g l =
        let r = get_or x.rows g blank in
        let s = a.rows g l in
        subst (λ (z : Row). RowShows z (put f (Waiting 0 y.now) y.flight g) (put f (y.now ∷ y.accepted f) y.accepted g) (y.arrived g)) (sym (place_at f (row_accepted x.now) x.rows g blank (omega (arith, a.flows))))
        (by_place g f (λ b. RowShows (cond b (row_accepted x.now r) r) (cond b (Waiting 0 y.now) (y.flight g)) (cond b (y.now ∷ y.accepted f) (y.accepted g)) (y.arrived g))
        (λ e. record {
          flight = ap (Waiting 0) a.now;
          accepted_count = ap counted (s.accepted_count ∙ ap (λ j. length (y.accepted j)) e) ∙ counts_more (length (y.accepted f)) (omega (arith, few, a.near));
          delivered_count = s.delivered_count;
          transits = s.transits;
        })
        (λ _. s))

    pub offered_alike : Alike P (offered_table P f x) (offered P f y)
    unfolding offered_table offered
    offered_alike = record {
      now = a.now;
      flows = length_place f (row_accepted x.now) x.rows ∙ a.flows;
      links = length_place (port_at P f 0) (joined_by (f ∷ [])) x.ports ∙ a.links;
      rows = offer_rows;
      ports = place_ports (port_at P f 0) (joined_by (f ∷ []));
      near = a.near;
      offers = λ g l. by_place g f (λ b. length (cond b (y.now ∷ y.accepted f) (y.accepted g)) ≤ y.now + cond (released_at y.now (cond b (Waiting 0 y.now) (y.flight g))) 1 0)
          (λ _. rw (eq-eqb y.now y.now refl) (omega (arith, few)))
          (λ _. a.offers g l);
      deliveries = a.deliveries;
    }

  pub lined_alike : (p c : ℕ) (frame : Frame) → Alike P ((tables ρ K).lined p c frame x) ((functions ρ K).lined p c frame y)
  lined_alike p c frame = record {
    now = a.now;
    flows = a.flows;
    links = length_place p (with_frame c frame) x.ports ∙ a.links;
    rows = a.rows;
    ports = place_ports p (with_frame c frame);
    near = a.near;
    offers = a.offers;
    deliveries = a.deliveries;
  }

  pub fresh_alike : (Q : Plan) → port_count Q ≡ port_count P → Alike Q (fresh_tables Q x) (afresh y)
  unfolding fresh_tables afresh
  fresh_alike Q e = record {
    now = a.now;
    flows = length-replicate (flow_count Q) blank;
    links = a.links ∙ sym e;
    rows = blank_shows (flow_count Q);
    ports = λ p d h. a.ports p d (omega arith);
    near = a.near;
    offers = λ f h. omega arith;
    deliveries = λ f h. omega arith;
  }
