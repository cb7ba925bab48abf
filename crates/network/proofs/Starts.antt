-- The start tick: class 7 is chosen exactly when the port's clock reads the begin of the window.
use Rattle.std.proofs.lemmas.Grind.{common_steps}
use Rattle.std.proofs.Common.{◌≡◌, ℕ, ◌+◌, ◌^◌, ◌<◌, ◌≤◌, Bool, true, false, cond, ◌&&◌, ltb, leb, List, [], ◌∷◌, Some, None, Option, refl, ap, ◌∙◌, subst, inl, inr, add-zero, arith}
use Rattle.std.proofs.lemmas.Bool.{cases_order, cases_lt, cases_eq, and_from, ltb-true, le-leb, lt-leb, lt-ltb, eq-eqb, le-ltb}
use Rattle.schedule.specs.Plan.{Plan, flow_count, hop_count, port_at, wire_of}
use Rattle.gates.specs.Octets.{opens}
use Rattle.gates.specs.Timetable.{Transition, timetable, open_for}
use Rattle.network.specs.Windows.{Turn, begin_of}
use Rattle.network.specs.Lawful.{ClocksNear, Meaning, Lawful}
use Rattle.network.specs.Flows.{is_flow}
use Rattle.network.specs.Ports.{Port, mask_of, time_of_first, time_of, available, chosen, flow_sent}
use Rattle.network.specs.Guarantee.{NotYet}
use Rattle.network.proofs.Masks.{mask_below_lt, in_mask, mask_in}
use Rattle.network.proofs.Turns.{each_tells, reach_of_turn}
use Rattle.network.proofs.Facts.{Facts, Counts}
use Rattle.network.proofs.Inv.{WireOk}

abbrev pub turn_of : (P : Plan) (p f h n : ℕ) → f < flow_count P → h < hop_count P f → port_at P f h ≡ p → Turn P p
turn_of P p f h n fi hi at = record { flow = f; hop = h; cycles = n; flow_in = fi; hop_in = hi; at = at }

pub time_7 : (P : Plan) {S : Type 0} (x : Port S) (f : ℕ) (l : List ℕ) → x.scheduled ≡ f ∷ l → time_of P x 7 ≡ wire_of P f
time_7 P x f l e = ap (time_of_first (wire_of P)) e

pub time_none : (P : Plan) {S : Type 0} (x : Port S) → x.scheduled ≡ [] → time_of P x 7 ≡ 0
time_none P x e = ap (time_of_first (wire_of P)) e

-- what is chosen is available, so a frame waits and its gate is open throughout
module _ (P : Plan) (octets : ℕ → ℕ) {S : Type 0} (t l : ℕ) (x : Port S) where
  pub available_opens : (c : ℕ) → available P octets l x c ≡ true → (0 < time_of P x c) × ((j : ℕ) → j < time_of P x c → opens (octets (l + j)) c ≡ true)
  available_opens c e = grind (arith, common_steps, each_tells, ltb-true)

  -- what a lawful selection replies is available
  pub picked : (K : Meaning S) → Lawful K → (c : ℕ) → K.pick x.selection (mask_of (available P octets l x)) ≡ Some c → (c < 8) × (available P octets l x c ≡ true)
  picked K law c e =
      let k = (law.picks x.selection).class (mask_of (available P octets l x)) c (mask_below_lt 8 (available P octets l x)) e in
      (k.0, in_mask (available P octets l x) c k.0 k.1)

  pub chosen_is : (K : Meaning S) → Lawful K → (c : ℕ) → chosen P octets K t l x ≡ Some c → (c < 8) × (0 < time_of P x c) × ((j : ℕ) → j < time_of P x c → opens (octets (l + j)) c ≡ true)
  chosen_is K law c e =
      let (c8, av) = picked K law c (go (ltb t x.until) (K.pick x.selection (mask_of (available P octets l x))) e) in
      let (a, b) = available_opens c av in (c8, a, b)
    where
      go : (b : Bool) (v : Option ℕ) → cond b None v ≡ Some c → v ≡ Some c
      go true v e = cc
      go false v e = e

module _ (P : Plan) (B : ℕ) (tr : Transition) (ρ : ℕ → ℕ → ℕ) (F : Facts P B tr) (low : P.error ≤ B) (near : ClocksNear P.error ρ) where
  -- a tick before which the clock has not read W is at most the error after W
  pub not_late : (p W t : ℕ) → t ≤ 2 ^ 48 → NotYet P.error (ρ p) W t → t ≤ W + P.error
  not_late p W t lim ny = elim (cases_lt (W + P.error) t) [
    | inr h ↦ h
    | inl h ↦ absurd (omega (arith, (near p (W + P.error) (omega arith) (omega arith)).late, ny (W + P.error) (omega arith) h))
  ]

  -- a frame waits at port p for the window i, at tick t
  module _ (t : ℕ) (from : B ≤ t) (lim : t < 2 ^ 48) {p : ℕ} (i : Turn P p) (counts : Counts P B tr i.cycles)
      (reached : reach_of_turn P B p i ≤ t + P.error) (ny : NotYet P.error (ρ p) (begin_of P B p i) t) where
    opens_is : opens (timetable P B tr p (ρ p t)) 7 ≡ true → begin_of P B p i ≤ ρ p t
    opens_is e = grind (arith, common_steps, F, counts, near)

    module _ {S : Type 0} (x : Port S) (line : x.scheduled ≡ i.flow ∷ []) where
      ready : begin_of P B p i ≤ ρ p t → available P (timetable P B tr p) (ρ p t) x 7 ≡ true
      ready r =
          let l = not_late p (begin_of P B p i) t (omega arith) ny in
          let k = near p t (omega arith) (omega arith) in
          let w = wire_of P i.flow in
          ap (λ w. ltb 0 w && open_for (timetable P B tr p) (ρ p t) 7 w) (time_7 P x i.flow [] line)
          ∙ and_from (ltb 0 w) (open_for (timetable P B tr p) (ρ p t) 7 w) (lt-ltb 0 w (omega arith))
          ((each_tells w (λ j. opens (timetable P B tr p (ρ p t + j)) 7)).1 (λ j m. F.seven_has p (ρ p t + j) (begin_of P B p i) w (F.own i counts) (omega arith) (omega arith)))

      others_shut : begin_of P B p i ≤ ρ p t → (c : ℕ) → c < 7 → available P (timetable P B tr p) (ρ p t) x c ≡ true → ⊥
      others_shut r c c7 e =
          let l = not_late p (begin_of P B p i) t (omega arith) ny in
          let k = near p t (omega arith) (omega arith) in
          let (a, b) = available_opens P (timetable P B tr p) t (ρ p t) x c e in
          F.other p (ρ p t + 0) c (begin_of P B p i) (wire_of P i.flow) c7 (b 0 a) (F.own i counts) (omega arith) (omega arith)

      module _ (wire_ok : WireOk P B tr ρ t p x.class x.until) where
        wire_free : begin_of P B p i ≤ ρ p t → t < x.until → ⊥
        wire_free r u =
            let l = not_late p (begin_of P B p i) t (omega arith) ny in
            let k = near p t (omega arith) (omega arith) in
            elim (cases_eq x.class 7) [
              | inr c ↦ wire_ok.clear c t (omega arith) u (begin_of P B p i, wire_of P i.flow, F.own i counts, omega arith, omega arith)
              | inl c ↦
                  let (W, w, occ, s, first, s_t, e) = wire_ok.sched c u in
                  let ls = not_late p W s (omega arith) first.not_before in
                  elim (cases_order (begin_of P B p i) W) [
                    | inl same ↦ omega (arith, ny s (omega arith) s_t, first.reads)
                    | inr (inl later) ↦ omega (arith, F.later i W w counts occ later)
                    | inr (inr earlier) ↦ omega (arith, F.before i W w counts occ earlier)
                  ]
            ]

        module _ (K : Meaning S) (law : Lawful K) where
          abbrev asked : Option ℕ
          asked = K.pick x.selection (mask_of (available P (timetable P B tr p) (ρ p t) x))

          pub chooses : begin_of P B p i ≤ ρ p t → chosen P (timetable P B tr p) K t (ρ p t) x ≡ Some 7
          chooses r = ap (λ b. cond b None asked) (le-ltb t x.until free) ∙ go asked refl
            where
              free : x.until ≤ t
              free = elim (cases_lt t x.until) [ inl h ↦ absurd (wire_free r h) | inr h ↦ h ]

              go : (v : Option ℕ) → asked ≡ v → v ≡ Some 7
              go None e = absurd (law.spares x.selection ((law.picks x.selection).none (mask_of (available P (timetable P B tr p) (ρ p t) x)) (mask_below_lt 8 (available P (timetable P B tr p) (ρ p t) x)) e 7
                  (mask_in (available P (timetable P B tr p) (ρ p t) x) 7 (omega arith) (ready r))))
              go (Some c) e =
                  let (c8, av) = picked P (timetable P B tr p) t (ρ p t) x K law c e in
                  elim (cases_lt c 7) [ inl h ↦ absurd (others_shut r c h av) | inr h ↦ (let q : c ≡ 7 = omega arith in ap Some q) ]

          pub only_then : chosen P (timetable P B tr p) K t (ρ p t) x ≡ Some 7 → begin_of P B p i ≤ ρ p t
          only_then e =
              let (_, a, b) = chosen_is P (timetable P B tr p) t (ρ p t) x K law 7 e in
              opens_is (subst (λ l. opens (timetable P B tr p l) 7 ≡ true) (add-zero (ρ p t)) (b 0 a))

          -- the claim of the start tick
          pub starts_when : is_flow (flow_sent x (chosen P (timetable P B tr p) K t (ρ p t) x)) i.flow ≡ leb (begin_of P B p i) (ρ p t)
          starts_when = grind (arith, common_steps, chooses, only_then, le-leb, lt-leb, eq-eqb)
