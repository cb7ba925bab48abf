-- At the last tick of the cycle of a good plan every port is open to the ordinary classes, and so its gate list ends.
use Rattle.std.proofs.Common.{◌≡◌, ℕ, zero, suc, ◌+◌, ◌-◌, ◌*◌, ◌<◌, ◌≤◌, Bool, false, ◌&&◌, eqb, ltb, leb, sym, refl, ap, ◌∙◌, inl, inr, arith}
use Rattle.std.proofs.lemmas.Bool.{cases_lt, le-ltb, and_left, and_right, or_from}
use Rattle.schedule.specs.Plan.{Plan, flow_count, hop_count, port_at, offset_at, end_at}
use Rattle.schedule.specs.Rules.{Good}
use Rattle.schedule.specs.Checks.{checked_plan}
use Rattle.gates.specs.Octets.{some, inside, ahead, in_window, in_guard, octet_by, octet_at}
use Rattle.gates.specs.Lists.{yields, EndsOrdinary}
use Rattle.gates.proofs.Entries.{ends_with}

none : (n : ℕ) (q : ℕ → Bool) → ((i : ℕ) → i < n → q i ≡ false) → some n q ≡ false
none zero q held = refl
none (suc n) q held = or_from (q n) (some n q) (held n (omega arith)) (none n q (λ i lt. held i (omega arith)))

module _ (P : Plan) (good : Good P) where
  -- with a clock error rule 2 leaves room behind a window; without one the next hop does, or rule 4 after the last
  ends_before : (f h : ℕ) → f < flow_count P → h < hop_count P f → end_at P f h < P.cycle
  ends_before f h lf lh =
      let rules = good f lf h lh in
      elim (cases_lt (suc h) (hop_count P f)) [
        | inl more ↦ (let next = good f lf (suc h) more in omega (arith, rules.ends, next.reached, next.ends))
        | inr last ↦ (let e : suc h ≡ hop_count P f = omega arith in omega (arith, rules.ends, rules.delivered e))
      ]

  no_window : (p : ℕ) → in_window P p (P.cycle - 1) ≡ false
  no_window p =
      let x = P.cycle - 1 in
      none (flow_count P) (λ f. some (hop_count P f) (inside P p x f)) (λ f lf. none (hop_count P f) (inside P p x f) (λ h lh.
      let le : end_at P f h ≤ x = omega (arith, ends_before f h lf lh) in
      and_right (eqb (port_at P f h) p) (leb (offset_at P f h) x && ltb x (end_at P f h)) (and_right (leb (offset_at P f h) x) (ltb x (end_at P f h)) (le-ltb x (end_at P f h) le))))

  no_guard : (p : ℕ) → in_guard P p (P.cycle - 1) ≡ false
  no_guard p =
      let x = P.cycle - 1 in
      none (flow_count P) (λ f. some (hop_count P f) (ahead P p x f)) (λ f lf. none (hop_count P f) (ahead P p x f) (λ h lh.
      let le : offset_at P f h ≤ x = omega (arith, ends_before f h lf lh) in
      and_right (eqb (port_at P f h) p) (ltb x (offset_at P f h) && leb (offset_at P f h) (x + 2 * P.error)) (and_left (ltb x (offset_at P f h)) (leb (offset_at P f h) (x + 2 * P.error)) (le-ltb x (offset_at P f h) le))))

  pub last_ordinary : (p : ℕ) → octet_at P p (P.cycle - 1) ≡ 0x7F
  unfolding octet_at
  last_ordinary p = λ i. octet_by (no_window p i) (no_guard p i)

pub ends_ordinary : EndsOrdinary
ends_ordinary c p es list =
    let P = checked_plan c in
    let lt : P.cycle - 1 < P.cycle = omega (arith, c.draft.timing.0) in
    sym (ends_with es list.lasting) ∙ ap (λ n. yields es (n - 1)) list.whole ∙ list.yielding (P.cycle - 1) lt ∙ last_ordinary P c.good p
