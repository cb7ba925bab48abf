-- The guarantee.
use Rattle.std.proofs.lemmas.Grind.{common_steps}
use Rattle.std.proofs.Common.{◌≡◌, ℕ, zero, suc, ◌+◌, ◌-◌, ◌^◌, ◌<◌, ◌≤◌, Bool, true, false, cond, eqb, List, [], ◌∷◌, length, Some, None, Option, sym, refl, ap, ◌∙◌, inl, inr, arith}
use Rattle.std.proofs.lemmas.Bool.{cases_Bool, cases_eq, eqb-true, eqb-false, eq-eqb, ne_eqb, both_ways, true≢false, false≢true}
use Rattle.schedule.specs.Plan.{Plan, flow_count, hop_count, offset_at, port_at, crossed_at}
use Rattle.gates.specs.Timetable.{Transition, steady, pending, replaced, timetable}
use Rattle.network.specs.declared.flight.Flight.{Flight}
use Rattle.network.specs.declared.flight.Flight.TheVariants.{Idle, Waiting, Moving}
use Rattle.network.specs.declared.row.FlowRecord.{FlowRecord}
use Rattle.network.specs.Windows.{cycle_begin}
use Rattle.network.specs.Lawful.{ClocksNear, Meaning, Lawful}
use Rattle.network.specs.Flows.{landed, is_under_way}
use Rattle.network.specs.Calls.{Network, Call, offer, queue, read_record, read_wire, advance, change, settle, Reply, accepted, queued, recorded, carries, now_is, changes_at, settled, refused, out_of_order, offer_refused, record_refused, wire_refused, advance_refused, change_tick, change_refused, settle_refused, in_order, switched, tick, ticks, refusal, done, result, reply, after, run, replies}
use Rattle.network.specs.Functions.{Core, extremes, record_of, ticked, offered, afresh, functions, new}
use Rattle.network.specs.Guarantee.{InTime, Punctual, HandedOver, Promised, AllFit, keeps, kept, concerns, told, Alike, Guarantee}
use Rattle.network.proofs.Facts.{Facts, Sound, facts}
use Rattle.network.proofs.Certified.{greatest_is, release_le, climbs}
use Rattle.network.proofs.Inv.{FlightOk, Inv}
use Rattle.network.proofs.Starts.{not_late}
use Rattle.network.proofs.Keeps.{went, logged, tick_flight}
use Rattle.network.proofs.Changes.{Ok, near_at, drained, ticked_inv, advance_fits, ticks_ok, after_ok, new_ok, run_ok}

-- what there is of flow f: plan in force, base, transition, now, its frame, and its logs
abbrev View : Type 0
View = Plan × ℕ × Transition × ℕ × Flight × List ℕ × List (ℕ × ℕ)

abbrev view : {S : Type 0} → ℕ → Network (Core S) → View
view f n = (n.plan, n.base, n.transition, n.core.now, n.core.flight f, n.core.accepted f, n.core.arrived f)

-- what the calls that are kept do to it, and reply of it
abbrev turned : Plan → ℕ → Transition → ℕ → Flight → List ℕ → List (ℕ × ℕ) → View
turned P B steady t x a l = (P, B, steady, t, x, a, l)
turned P B (pending Q T) t x a l = cond (eqb t T) (Q, T, replaced P B, t, Idle, [], []) (P, B, pending Q T, t, x, a, l)
turned P B (replaced O A) t x a l = (P, B, replaced O A, t, x, a, l)

abbrev ticked_view : (ℕ → ℕ → ℕ) → ℕ → View → View
ticked_view ρ f v = turned v.0 v.1 v.2 (v.3 + 1) (went v.0 ρ v.3 f (landed v.0 v.3 f v.4)) v.5 (logged v.0 v.3 f v.4 v.6)

abbrev ticked_views : (ℕ → ℕ → ℕ) → ℕ → ℕ → View → View
ticked_views ρ f zero v = v
ticked_views ρ f (suc k) v = ticked_view ρ f (ticked_views ρ f k v)

abbrev view_refusal : ℕ → View → Call → Option ℕ
view_refusal f v (offer g) = offer_refused v.0 v.1 v.2 v.3 f v.4
view_refusal f v (queue p c octets label) = None
view_refusal f v (read_record g) = record_refused v.0 g
view_refusal f v (read_wire p) = wire_refused v.0 p
view_refusal f v (advance k) = advance_refused v.3 k
view_refusal f v (change Q A) = change_refused v.0 v.1 v.3 Q A (change_tick v.3 Q A)
view_refusal f v settle = settle_refused v.0 v.1 v.2 v.3

abbrev view_done : (ℕ → ℕ → ℕ) → ℕ → View → Call → View
view_done ρ f v (offer g) = (v.0, v.1, v.2, v.3, Waiting 0 v.3, v.3 ∷ v.5, v.6)
view_done ρ f v (queue p c octets label) = v
view_done ρ f v (read_record g) = v
view_done ρ f v (read_wire p) = v
view_done ρ f v (advance k) = ticked_views ρ f k v
view_done ρ f v (change Q A) = (v.0, v.1, pending Q (change_tick v.3 Q A), v.3, v.4, v.5, v.6)
view_done ρ f v settle = (v.0, v.1, steady, v.3, v.4, v.5, v.6)

abbrev view_record : View → FlowRecord
view_record v = record { accepted = length v.5; delivered = length v.6; transits = extremes v.6; under_way = is_under_way v.4 }

abbrev view_result : View → Call → Reply
view_result v (offer g) = accepted
view_result v (queue p c octets label) = queued
view_result v (read_record g) = recorded (view_record v)
view_result v (read_wire p) = carries None
view_result v (advance k) = now_is (v.3 + k)
view_result v (change Q A) = changes_at (change_tick v.3 Q A)
view_result v settle = settled

abbrev view_reply : ℕ → View → Call → Reply
view_reply f v c = cond (in_order v.2 c) (elim (view_refusal f v c) [ None ↦ view_result v c | Some k ↦ refused k ]) out_of_order

abbrev view_after : (ℕ → ℕ → ℕ) → ℕ → View → Call → View
view_after ρ f v c = cond (in_order v.2 c) (elim (view_refusal f v c) [ None ↦ view_done ρ f v c | Some k ↦ v ]) v

abbrev view_run : (ℕ → ℕ → ℕ) → ℕ → List Call → View → View
view_run ρ f [] v = v
view_run ρ f (c ∷ cs) v = view_run ρ f cs (view_after ρ f v c)

abbrev view_told : (ℕ → ℕ → ℕ) → ℕ → List Call → View → List Reply
view_told ρ f [] v = []
view_told ρ f (c ∷ cs) v = cond (concerns f c) (view_reply f v c ∷ view_told ρ f cs (view_after ρ f v c)) (view_told ρ f cs (view_after ρ f v c))

-- a call whose answer concerns f is kept
concerned : (f : ℕ) (c : Call) → concerns f c ≡ true → keeps f c ≡ true
concerned f (offer g) e = e
concerned f (queue p c octets label) e = absurd (false≢true e)
concerned f (read_record g) e = refl
concerned f (read_wire p) e = absurd (false≢true e)
concerned f (advance k) e = refl
concerned f (change Q A) e = refl
concerned f settle e = refl

module _ (P : Plan) (B : ℕ) (tr : Transition) (ρ : ℕ → ℕ → ℕ) (F : Facts P B tr) (low : P.error ≤ B) (near : ClocksNear P.error ρ) where
  -- the last hop of a flow
  last_of : (f : ℕ) → f < flow_count P → (k : ℕ) × (suc k ≡ hop_count P f)
  last_of f fi = (hop_count P f - 1, omega (arith, F.fit.routed f fi))

  in_time : (t f : ℕ) → t ≤ 2 ^ 48 → f < flow_count P → (x : Flight) → FlightOk P B tr ρ t t f x → InTime P t f x
  in_time t f lim fi Idle ok = tt
  in_time t f lim fi (Waiting h u) w =
      let (k, e) = last_of f fi in
      let ru = w.released in let hi = w.hop_in in
      let l = not_late P B tr ρ F low near (port_at P f h) (cycle_begin P B w.cycles + offset_at P f h) t lim w.not_yet in
      omega (arith, climbs P F.fit f fi h k (omega arith) (omega arith), greatest_is P f k e, release_le P F.fit f fi k (omega arith))
  in_time t f lim fi (Moving h u a) w =
      let (k, e) = last_of f fi in
      let ru = w.released in let hi = w.hop_in in let st = w.started in let ar = w.arrives in let ye = w.yet in
      let l = not_late P B tr ρ F low near (port_at P f h) (cycle_begin P B w.cycles + offset_at P f h) w.start (omega arith) w.first.not_before in
      elim (cases_eq h k) [
        | inl q ↦ (let z : crossed_at P f h ≡ crossed_at P f k = ap (crossed_at P f) q in omega (arith, greatest_is P f k e, release_le P F.fit f fi k (omega arith)))
        | inr q ↦ omega (arith, (F.fit.good f fi (suc h) (omega arith)).reached, climbs P F.fit f fi (suc h) k (omega arith) (omega arith), greatest_is P f k e, release_le P F.fit f fi k (omega arith))
      ]

  punctual_by : {S : Type 0} (n : Core S) → Inv P B tr ρ n → (f : ℕ) → f < flow_count P → Punctual P ρ n f
  punctual_by n inv f fi = record { each_once = inv.once f fi; on_time = inv.on_time f fi; in_time = in_time n.now f inv.top fi (n.flight f) (inv.flights f fi) }

-- the frames of a plan are all delivered by the last tick before the next comes into force
handed : (ρ : ℕ → ℕ → ℕ) {S : Type 0} (K : Meaning S) (P : Plan) (B : ℕ) (tr : Transition) (n : Core S) → Sound P B tr → P.error ≤ B → ClocksNear P.error ρ
    → (n.now < 2 ^ 48 → Inv P B tr ρ (ticked ρ K P (timetable P B tr) n)) → HandedOver ρ K P B tr n
unfolding ticked
handed ρ K P B steady n s low near inv = tt
handed ρ K P B (replaced O A) n s low near inv = tt
handed ρ K P B (pending Q T) n s low near inv = λ past lim f fi. (
  drained P B ρ low near (ticked ρ K P (timetable P B (pending Q T)) n) Q T s (inv lim) past f,
  punctual_by P B (pending Q T) ρ (facts P B (pending Q T) s) low near (ticked ρ K P (timetable P B (pending Q T)) n) (inv lim) f fi,
)

module _ (P₀ : Plan) (ρ : ℕ → ℕ → ℕ) (near : ClocksNear P₀.error ρ) {S : Type 0} (K : Meaning S) (law : Lawful K) where
  promised : (n : Network (Core S)) → Ok P₀ ρ n → Promised ρ K n
  promised n ok = record {
    punctual = λ f fi. punctual_by n.plan n.base n.transition ρ (facts n.plan n.base n.transition ok.sound) ok.low (near_at P₀ ρ near n ok) n.core ok.inv f fi;
    clear = λ p t _ a b c. (ok.inv.wires p).clear c t a b;
    handed_over = handed ρ K n.plan n.base n.transition n.core ok.sound ok.low (near_at P₀ ρ near n ok) (ticked_inv P₀ ρ near K law n ok);
  }

  module _ (f : ℕ) where
    switched_view : (P : Plan) (B : ℕ) (tr : Transition) (m : Core S) → view f (switched (functions ρ K) P B tr m) ≡ turned P B tr m.now (m.flight f) (m.accepted f) (m.arrived f)
    unfolding afresh
    switched_view P B steady m = refl
    switched_view P B (replaced O A) m = refl
    switched_view P B (pending Q T) m = elim (cases_Bool (eqb m.now T)) [ inl e ↦ rw e refl | inr e ↦ rw e refl ]

    tick_view : (n : Network (Core S)) → Ok P₀ ρ n → n.core.now < 2 ^ 48 → view f (tick (functions ρ K) n) ≡ ticked_view ρ f (view f n)
    unfolding tick ticked
    tick_view n ok lim = grind (arith, common_steps, switched_view, tick_flight, facts, near_at, near)

    ticks_view : (n : Network (Core S)) → Ok P₀ ρ n → (k : ℕ) → n.core.now + k ≤ 2 ^ 48 → view f (ticks (functions ρ K) k n) ≡ ticked_views ρ f k (view f n)
    ticks_view n ok zero lim = refl
    ticks_view n ok (suc k) lim =
        let r = ticks_ok P₀ ρ near K law n ok k (omega arith) in let e = r.1 in
        tick_view (ticks (functions ρ K) k n) r.0 (omega arith) ∙ ap (ticked_view ρ f) (ticks_view n ok k (omega arith))

    offer_view : (n : Network (Core S)) → view f (done (functions ρ K) n (offer f)) ≡ view_done ρ f (view f n) (offer f)
    unfolding offered
    offer_view n = rw (eq-eqb f f refl) refl

    offer_other : (n : Network (Core S)) (g : ℕ) → (f ≡ g → ⊥) → view f (done (functions ρ K) n (offer g)) ≡ view f n
    unfolding offered
    offer_other n g ne = rw (ne_eqb f g ne) refl

    done_view : (n : Network (Core S)) → Ok P₀ ρ n → (c : Call) → refusal (functions ρ K) n c ≡ None → keeps f c ≡ true → view f (done (functions ρ K) n c) ≡ view_done ρ f (view f n) c
    done_view n ok (offer g) a e = ap (λ g. view f (done (functions ρ K) n (offer g))) (eqb-true g f e) ∙ offer_view n
    done_view n ok (queue p c octets label) a e = absurd (false≢true e)
    done_view n ok (read_record g) a e = refl
    done_view n ok (read_wire p) a e = refl
    done_view n ok (advance k) a e = ticks_view n ok k (advance_fits n.core.now k a)
    done_view n ok (change Q A) a e = refl
    done_view n ok settle a e = refl

    refusal_view : (n : Network (Core S)) (c : Call) → keeps f c ≡ true → refusal (functions ρ K) n c ≡ view_refusal f (view f n) c
    refusal_view n (offer g) e = ap (λ g. refusal (functions ρ K) n (offer g)) (eqb-true g f e)
    refusal_view n (queue p c octets label) e = absurd (false≢true e)
    refusal_view n (read_record g) e = refl
    refusal_view n (read_wire p) e = refl
    refusal_view n (advance k) e = refl
    refusal_view n (change Q A) e = refl
    refusal_view n settle e = refl

    result_view : (n : Network (Core S)) (c : Call) → concerns f c ≡ true → result (functions ρ K) n c ≡ view_result (view f n) c
    result_view n (offer g) e = refl
    result_view n (queue p c octets label) e = absurd (false≢true e)
    result_view n (read_record g) e = ap (λ g. recorded (record_of n.core g)) (eqb-true g f e)
    result_view n (read_wire p) e = absurd (false≢true e)
    result_view n (advance k) e = refl
    result_view n (change Q A) e = refl
    result_view n settle e = refl

    other_done : (n : Network (Core S)) (c : Call) → keeps f c ≡ false → view f (done (functions ρ K) n c) ≡ view f n
    other_done n (offer g) e = offer_other n g (λ q. eqb-false g f e (sym q))
    other_done n (queue p c octets label) e = refl
    other_done n (read_record g) e = absurd (true≢false e)
    other_done n (read_wire p) e = absurd (true≢false e)
    other_done n (advance k) e = absurd (true≢false e)
    other_done n (change Q A) e = absurd (true≢false e)
    other_done n settle e = absurd (true≢false e)

    kept_after : (n : Network (Core S)) → Ok P₀ ρ n → (c : Call) → keeps f c ≡ true → view f (after (functions ρ K) n c) ≡ view_after ρ f (view f n) c
    kept_after n ok c e = grind (arith, common_steps, done_view, refusal_view)

    other_after : (n : Network (Core S)) (c : Call) → keeps f c ≡ false → view f (after (functions ρ K) n c) ≡ view f n
    other_after n c e = grind (arith, common_steps, other_done)

    reply_view : (n : Network (Core S)) (c : Call) → concerns f c ≡ true → reply (functions ρ K) n c ≡ view_reply f (view f n) c
    reply_view n c e = grind (arith, common_steps, result_view, refusal_view, concerned)

    -- what f sees of a run is a machine over the calls that are kept
    run_view : (cs : List Call) → AllFit cs → (n : Network (Core S)) → Ok P₀ ρ n → view f (run (functions ρ K) cs n) ≡ view_run ρ f (kept f cs) (view f n)
    run_view [] b n ok = refl
    run_view (c ∷ cs) b n ok =
        let ih = run_view cs b.1 (after (functions ρ K) n c) (after_ok P₀ ρ near K law n ok c b.0) in
        elim (cases_Bool (keeps f c)) [
          | inl e ↦ rw e (ih ∙ ap (view_run ρ f (kept f cs)) (kept_after n ok c e))
          | inr e ↦ rw e (ih ∙ ap (view_run ρ f (kept f cs)) (other_after n c e))
        ]

    said : (n : Network (Core S)) (c : Call) (o : Bool) → concerns f c ≡ o → (l : List Reply) → cond o (reply (functions ρ K) n c ∷ l) l ≡ cond o (view_reply f (view f n) c ∷ l) l
    said n c true e l = ap (λ r. r ∷ l) (reply_view n c e)
    said n c false e l = refl

    unsaid : (n : Network (Core S)) (c : Call) (o : Bool) → concerns f c ≡ o → keeps f c ≡ false → (l : List Reply) → cond o (reply (functions ρ K) n c ∷ l) l ≡ l
    unsaid n c true e k l = absurd (both_ways (keeps f c) k (concerned f c e))
    unsaid n c false e k l = refl

    told_view : (cs : List Call) → AllFit cs → (n : Network (Core S)) → Ok P₀ ρ n → told f cs (replies (functions ρ K) cs n) ≡ view_told ρ f (kept f cs) (view f n)
    told_view [] b n ok = refl
    told_view (c ∷ cs) b n ok =
        let ih = told_view cs b.1 (after (functions ρ K) n c) (after_ok P₀ ρ near K law n ok c b.0) in
        elim (cases_Bool (keeps f c)) [
          | inl e ↦ rw e (ap (λ l. cond (concerns f c) (reply (functions ρ K) n c ∷ l) l) (ih ∙ ap (view_told ρ f (kept f cs)) (kept_after n ok c e))
              ∙ said n c (concerns f c) refl (view_told ρ f (kept f cs) (view_after ρ f (view f n) c)))
          | inr e ↦ rw e (unsaid n c (concerns f c) refl e (told f cs (replies (functions ρ K) cs (after (functions ρ K) n c))) ∙ ih ∙ ap (view_told ρ f (kept f cs)) (other_after n c e))
        ]

alike : {S R : Type 0} (f : ℕ) (n : Network (Core S)) (m : Network (Core R)) → view f n ≡ view f m → Alike f n m
alike f n m e = record { plan = ap (λ (v : View). v.0) e; flight = ap (λ (v : View). v.4) e; accepted = ap (λ (v : View). v.5) e; arrived = ap (λ (v : View). v.6) e; tells = ap view_record e }

pub guarantee : {S R : Type 0} → Guarantee S R
guarantee P B ρ fit low high near K L lawK lawL s r = record {
  always = λ cs b k lim. promised P ρ near K lawK (ticks (functions ρ K) k (run (functions ρ K) cs (new P B s)))
      (ticks_ok P ρ near K lawK (run (functions ρ K) cs (new P B s)) (keep K lawK s cs b) k lim).0;
  isolated = λ cs ds bc bd f e. (
    told_view P ρ near K lawK f cs bc (new P B s) (start s) ∙ ap (λ l. view_told ρ f l (P, B, steady, B, Idle, [], [])) e ∙ sym (told_view P ρ near L lawL f ds bd (new P B r) (start r)),
    alike f (run (functions ρ K) cs (new P B s)) (run (functions ρ L) ds (new P B r))
        (run_view P ρ near K lawK f cs bc (new P B s) (start s) ∙ ap (λ l. view_run ρ f l (P, B, steady, B, Idle, [], [])) e ∙ sym (run_view P ρ near L lawL f ds bd (new P B r) (start r))),
  );
}
  where
    start : {S : Type 0} (s : ℕ → S) → Ok P ρ (new P B s)
    start s = new_ok P ρ near B s fit low high

    keep : {S : Type 0} (K : Meaning S) → Lawful K → (s : ℕ → S) (cs : List Call) → AllFit cs → Ok P ρ (run (functions ρ K) cs (new P B s))
    keep K law s cs b = run_ok P ρ near K law cs b (new P B s) (start s)
