-- An accepted offer, scheduled or ordinary, keeps the invariant.
use Rattle.std.proofs.Common.{◌≡◌, ℕ, zero, suc, ◌+◌, ◌-◌, ◌*◌, ◌/◌, ◌%◌, ◌<◌, ◌≤◌, Bool, true, false, cond, not, eqb, ltb, List, [], ◌∷◌, ◌++◌, map, get_or, take, Some, None, Option, sym, refl, ap, ◌∙◌, subst, inl, inr, div-add-mod', arith}
use Rattle.std.proofs.lemmas.Bool.{and_parts, not-true, cases_order, cases_eq, leb-false, ltb-true, eqb-true, eq-eqb, ne_eqb, both_ways}
use Rattle.schedule.specs.Plan.{Plan, flow_count, hop_count, release_of, port_at, offset_at, early_at}
use Rattle.schedule.specs.Limits.{unless}
use Rattle.gates.specs.Timetable.{Transition, steady, pending, replaced, hold_from}
use Rattle.egress.specs.declared.ordinary.Frame.{Frame}
use Rattle.network.specs.declared.flight.Flight.{Flight}
use Rattle.network.specs.declared.flight.Flight.TheVariants.{Idle, Waiting, Moving}
use Rattle.network.specs.Windows.{cycle_begin}
use Rattle.network.specs.Lawful.{ClocksNear}
use Rattle.network.specs.Flows.{released_at}
use Rattle.network.specs.Ports.{at_place, joined_by, with_frame}
use Rattle.network.specs.Calls.{held_at, is_release, offer_refused}
use Rattle.network.specs.Functions.{Core, put, offered}
use Rattle.network.specs.Guarantee.{due}
use Rattle.network.proofs.Turns.{turns}
use Rattle.network.proofs.Facts.{Facts, Counts, crossed_lt}
use Rattle.network.proofs.Inv.{Waits, FlightOk, WaitsAt, LineOk, WireOk, Short, Inv}
use Rattle.network.proofs.Starts.{not_late}
use Rattle.network.proofs.Keeps.{one_waits}

-- what holds at the place that is put, and at each other, holds of all
pub put_all : {X : Type 0} (Q : ℕ → X → Type 0) (k : ℕ) (x : X) (fn : ℕ → X) → Q k x → ((j : ℕ) → (j ≡ k → ⊥) → Q j (fn j)) → (j : ℕ) → Q j (put k x fn j)
put_all Q k x fn here else j = elim (cases_eq j k) [ inl e ↦ rw (eq-eqb j k e) (subst (λ i. Q i x) (sym e) here) | inr e ↦ rw (ne_eqb j k e) (else j e) ]

-- a check that refuses nothing has passed, and so have those after it
pub passes : {A : Type 0} (b : Bool) (k : A) (later : Option A) → cond b later (Some k) ≡ None → (b ≡ true) × (later ≡ None)
passes true k later e = (refl, e)
passes false k later e = cc

-- what an accepted offer tells
may_offer : (P : Plan) (B : ℕ) (tr : Transition) (t f : ℕ) (x : Flight) → offer_refused P B tr t f x ≡ None
    → (f < flow_count P) × ((t - B) % P.cycle ≡ release_of P f) × (released_at t x ≡ false) × (held_at P B tr t ≡ false)
may_offer P B tr t f x e =
    let (a, e1) = passes (ltb f (flow_count P)) 41 (unless (is_release P B tr t f) 42 (unless (not (released_at t x)) 43 None)) e in
    let (b, e2) = passes (is_release P B tr t f) 42 (unless (not (released_at t x)) 43 None) e1 in
    let (c, _) = passes (not (released_at t x)) 43 None e2 in
    let (b1, b2) = and_parts (eqb ((t - B) % P.cycle) (release_of P f)) (not (held_at P B tr t)) b in
    (ltb-true f (flow_count P) a, eqb-true ((t - B) % P.cycle) (release_of P f) b1, not-true (released_at t x) c, not-true (held_at P B tr t) b2)

module _ (P : Plan) (B : ℕ) (tr : Transition) (ρ : ℕ → ℕ → ℕ) (F : Facts P B tr) (low : P.error ≤ B) (near : ClocksNear P.error ρ) where
  pub early_ge : (f h : ℕ) → f < flow_count P → h < hop_count P f → P.error ≤ early_at P f h
  early_ge f zero fi hi = omega arith
  early_ge f (suc h) fi hi = omega (arith, (F.fit.good f fi h (omega arith)).guarded)

  module _ {S : Type 0} (n : Core S) (inv : Inv P B tr ρ n) where
    -- at the release nothing of an earlier cycle is left
    idle_then : (f : ℕ) → f < flow_count P → (n.now - B) % P.cycle ≡ release_of P f → (x : Flight) → FlightOk P B tr ρ n.now n.now f x → released_at n.now x ≡ false → x ≡ Idle
    idle_then f fi at Idle ok e = refl
    idle_then f fi at (Waiting h u) w e =
        let m = (n.now - B) / P.cycle in
        let d = div-add-mod' (n.now - B) P.cycle in
        let b = inv.base in
        let r = F.fit.released f fi in
        let g = (F.fit.good f fi h w.hop_in).ends in
        let ru = w.released in let re = w.reached in
        let l = not_late P B tr ρ F low near (port_at P f h) (cycle_begin P B w.cycles + offset_at P f h) n.now inv.top w.not_yet in
        absurd (elim (cases_order w.cycles m) [
          | inl q ↦ both_ways (eqb u n.now) e (eq-eqb u n.now (omega (arith, ap (λ z. z * P.cycle) q)))
          | inr (inl q) ↦ omega (arith, turns w.cycles m P.cycle q)
          | inr (inr q) ↦ omega (arith, turns m w.cycles P.cycle q, early_ge f h fi w.hop_in)
        ])
    idle_then f fi at (Moving h u a) w e =
        let m = (n.now - B) / P.cycle in
        let d = div-add-mod' (n.now - B) P.cycle in
        let b = inv.base in
        let r = F.fit.released f fi in
        let ru = w.released in let st = w.started in let ye = w.yet in let ar = w.arrives in let fr = w.first.from in
        let g = (F.fit.good f fi h w.hop_in).guarded in
        let l = not_late P B tr ρ F low near (port_at P f h) (cycle_begin P B w.cycles + offset_at P f h) w.start (omega (arith, inv.top)) w.first.not_before in
        absurd (elim (cases_order w.cycles m) [
          | inl q ↦ both_ways (eqb u n.now) e (eq-eqb u n.now (omega (arith, ap (λ z. z * P.cycle) q)))
          | inr (inl q) ↦ omega (arith, turns w.cycles m P.cycle q, crossed_lt P F.fit f h fi w.hop_in)
          | inr (inr q) ↦ omega (arith, turns m w.cycles P.cycle q)
        ])

    pub offer_inv : (f : ℕ) → offer_refused P B tr n.now f (n.flight f) ≡ None → Inv P B tr ρ (offered P f n)
    unfolding offered
    offer_inv f e = record {
      base = inv.base;
      top = inv.top;
      flights = flights;
      lines = put_all (λ p x. LineOk P B tr ρ fl' p x.scheduled) p₀ (joined_by (f ∷ []) (n.port p₀)) n.port here else;
      wires = put_all (λ p x. WireOk P B tr ρ n.now p x.class x.until) p₀ (joined_by (f ∷ []) (n.port p₀)) n.port (inv.wires p₀) (λ p _. inv.wires p);
      small = put_all (λ _ x. (c : ℕ) → Short P B tr ρ (get_or x.ordinary c [])) p₀ (joined_by (f ∷ []) (n.port p₀)) n.port (inv.small p₀) (λ p _. inv.small p);
      absent = λ g go. rw (ne_eqb g f (λ q. omega (arith, fi))) (inv.absent g go);
      once = once;
      on_time = inv.on_time;
    }
      where
        fi : f < flow_count P
        fi = (may_offer P B tr n.now f (n.flight f) e).0

        is_idle : n.flight f ≡ Idle
        is_idle = idle_then f fi (may_offer P B tr n.now f (n.flight f) e).1 (n.flight f) (inv.flights f fi) (may_offer P B tr n.now f (n.flight f) e).2

        p₀ : ℕ
        p₀ = port_at P f 0

        fl' : ℕ → Flight
        fl' = put f (Waiting 0 n.now) n.flight

        counted : (tr : Transition) (m : ℕ) → held_at P B tr n.now ≡ false → cycle_begin P B m ≤ n.now → Counts P B tr m
        counted steady m q l = tt
        counted (pending Q T) m q l = omega (arith, leb-false (hold_from P B T) n.now q)
        counted (replaced O A) m q l = tt

        new_waits : Waits P B tr ρ n.now f 0 n.now
        new_waits =
            let d = div-add-mod' (n.now - B) P.cycle in
            let a = (may_offer P B tr n.now f (n.flight f) e).1 in
            let b = inv.base in
            let g = (F.fit.good f fi 0 (F.fit.routed f fi)).reached in
            record { cycles = (n.now - B) / P.cycle; counts = counted tr ((n.now - B) / P.cycle) (may_offer P B tr n.now f (n.flight f) e).3 (omega arith); hop_in = F.fit.routed f fi; released = omega arith; reached = omega arith; not_yet = λ s w l. absurd (omega arith) }

        flights : (g : ℕ) → g < flow_count P → FlightOk P B tr ρ n.now n.now g (fl' g)
        flights = put_all (λ g x. g < flow_count P → FlightOk P B tr ρ n.now n.now g x) f (Waiting 0 n.now) n.flight (λ _. new_waits) (λ g _. inv.flights g)

        other : (p g : ℕ) → WaitsAt P B tr ρ p g (n.flight g) → g ≡ f → ⊥
        other p g w q = subst (WaitsAt P B tr ρ p g) (ap n.flight q ∙ is_idle) w

        here : LineOk P B tr ρ fl' p₀ (take 16 ((n.port p₀).scheduled ++ (f ∷ [])))
        here = elim (inv.lines p₀) [
          | inl l ↦ inr (f, fi, rw (eq-eqb f f refl) refl, ap (λ l. take 16 (l ++ (f ∷ []))) l.0)
          | inr l ↦ absurd (other p₀ l.0 l.2 (sym (one_waits P B tr ρ F low near n.now n.now p₀ f l.0 inv.top fi l.1 (Waiting 0 n.now) (n.flight l.0) new_waits (inv.flights l.0 l.1) refl l.2)))
        ]

        else : (p : ℕ) → (p ≡ p₀ → ⊥) → LineOk P B tr ρ fl' p (n.port p).scheduled
        else p ne = elim (inv.lines p) [
          | inl l ↦ inl (l.0, put_all (λ g x. g < flow_count P → WaitsAt P B tr ρ p g x → ⊥) f (Waiting 0 n.now) n.flight (λ _ w. ne (sym w)) (λ g _. l.1 g))
          | inr l ↦ inr (l.0, l.1, rw (ne_eqb l.0 f (other p l.0 l.2)) l.2, l.3)
        ]

        once : (g : ℕ) → g < flow_count P → put f (n.now ∷ n.accepted f) n.accepted g ≡ due (fl' g) (map (λ (d : ℕ × ℕ). d.0) (n.arrived g))
        once g gi = elim (cases_eq g f) [
          | inl q ↦ rw (eq-eqb g f q) (ap (λ l. n.now ∷ l) (inv.once f fi ∙ ap (λ x. due x (map (λ (d : ℕ × ℕ). d.0) (n.arrived f))) is_idle ∙ ap (λ g. map (λ (d : ℕ × ℕ). d.0) (n.arrived g)) (sym q)))
          | inr q ↦ rw (ne_eqb g f q) (inv.once g gi)
        ]

    pub queue_inv : (p c : ℕ) (frame : Frame) → frame.octets ≤ 1522
        → Inv P B tr ρ (record { now = n.now; flight = n.flight; port = put p (with_frame c frame (n.port p)) n.port; accepted = n.accepted; arrived = n.arrived })
    queue_inv p c frame small = record {
      base = inv.base;
      top = inv.top;
      flights = inv.flights;
      lines = put_all (λ p x. LineOk P B tr ρ n.flight p x.scheduled) p (with_frame c frame (n.port p)) n.port (inv.lines p) (λ p _. inv.lines p);
      wires = put_all (λ p x. WireOk P B tr ρ n.now p x.class x.until) p (with_frame c frame (n.port p)) n.port (inv.wires p) (λ p _. inv.wires p);
      small = put_all (λ _ x. (d : ℕ) → Short P B tr ρ (get_or x.ordinary d [])) p (with_frame c frame (n.port p)) n.port (λ d. pushed (n.port p).ordinary c d (λ d. inv.small p d)) (λ p _. inv.small p);
      absent = inv.absent;
      once = inv.once;
      on_time = inv.on_time;
    }
      where
        push : (l : List Frame) → Short P B tr ρ l → Short P B tr ρ (l ++ (frame ∷ []))
        push [] a = (small, tt)
        push (x ∷ l) a = (a.0, push l a.1)

        pushed : (ls : List (List Frame)) (c d : ℕ) → ((d : ℕ) → Short P B tr ρ (get_or ls d [])) → Short P B tr ρ (get_or (at_place c (λ line. line ++ frame ∷ []) ls) d [])
        pushed [] c d a = a d
        pushed (l ∷ ls) zero zero a = push l (a 0)
        pushed (l ∷ ls) zero (suc d) a = a (suc d)
        pushed (l ∷ ls) (suc c) zero a = a 0
        pushed (l ∷ ls) (suc c) (suc d) a = pushed ls c d (λ d. a (suc d))
