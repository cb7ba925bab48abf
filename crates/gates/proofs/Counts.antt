-- A port has at most 48 edges, and each stretch but the last ends at one.
use Rattle.std.proofs.Common.{◌≡◌, ℕ, zero, suc, ◌+◌, ◌-◌, ◌*◌, ◌<◌, ◌≤◌, cond, eqb, ltb, sym, refl, ◌∙◌, subst, inl, inr, mul-suc, arith}
use Rattle.std.proofs.lemmas.Bool.Decides.{nat_tests}
use Rattle.std.proofs.lemmas.Bool.{cases_eq, cases_Bool, eq-eqb, eqb-true, ne_eqb, cond-true, cond-false}
use Rattle.schedule.specs.Plan.{Plan, flow_count, hop_count, port_at, offset_at, end_at}
use Rattle.schedule.specs.declared.checked.CheckedPlan.{CheckedPlan}
use Rattle.schedule.specs.Checks.{checked_plan}
use Rattle.schedule.proofs.Routes.{ports_apart}
use Rattle.gates.specs.Scan.{stretch_after}
use Rattle.gates.proofs.Edges.{Edge, until_is}

sum : ℕ → (ℕ → ℕ) → ℕ
sum zero q = 0
sum (suc n) q = q n + sum n q

sum_le : (n : ℕ) (q r : ℕ → ℕ) → ((i : ℕ) → i < n → q i ≤ r i) → sum n q ≤ sum n r
unfolding sum
sum_le zero q r e = omega arith
sum_le (suc n) q r e = let a = e n (omega arith) in let b = sum_le n q r (λ i l. e i (omega arith)) in omega arith

sum_lt : (n : ℕ) (q r : ℕ → ℕ) → ((i : ℕ) → i < n → q i ≤ r i) → (k : ℕ) → k < n → q k < r k → sum n q < sum n r
unfolding sum
sum_lt zero q r e k lk h = absurd (omega arith)
sum_lt (suc n) q r e k lk h = elim (cases_eq k n) [
  | inl s ↦ (let a : q n < r n = subst (λ i. q i < r i) s h in let b = sum_le n q r (λ i l. e i (omega arith)) in omega arith)
  | inr s ↦ (let a = e n (omega arith) in let b = sum_lt n q r (λ i l. e i (omega arith)) k (omega arith) h in omega arith)
]

sum_most : (n m : ℕ) (q : ℕ → ℕ) → ((i : ℕ) → i < n → q i ≤ m) → sum n q ≤ m * n
unfolding sum
sum_most zero m q e = omega arith
sum_most (suc n) m q e = let a = e n (omega arith) in let b = sum_most n m q (λ i l. e i (omega arith)) in let c = mul-suc m n in omega arith

sum_none : (n : ℕ) (q : ℕ → ℕ) → ((i : ℕ) → i < n → q i ≡ 0) → sum n q ≡ 0
unfolding sum
sum_none zero q e = refl
sum_none (suc n) q e = let a = e n (omega arith) in let b = sum_none n q (λ i l. e i (omega arith)) in omega arith

-- 1 for an edge that is yet to come
coming : ℕ → ℕ → ℕ
coming t e = cond (ltb t e) 1 0

coming_most : (t e : ℕ) → coming t e ≤ 1
unfolding coming
coming_most t e = grind (arith, nat_tests)

coming_le : (t u e : ℕ) → t ≤ u → coming u e ≤ coming t e
unfolding coming
coming_le t u e le = grind (arith, nat_tests)

coming_lt : (t u e : ℕ) → t < u → u ≡ e → coming u e < coming t e
unfolding coming
coming_lt t u e lt is = grind (arith, nat_tests)

module _ (P : Plan) (p : ℕ) where
  edges_with : ℕ → ℕ → ℕ → ℕ
  edges_with t f h = coming t (offset_at P f h - 2 * P.error) + coming t (offset_at P f h) + coming t (end_at P f h)

  edges_at : ℕ → ℕ → ℕ → ℕ
  edges_at t f h = cond (eqb (port_at P f h) p) (edges_with t f h) 0

  -- the edges of the port that are yet to come at tick t
  pub edges_after : ℕ → ℕ
  edges_after t = sum (flow_count P) (λ f. sum (hop_count P f) (edges_at t f))

  at_le : (t u f h : ℕ) → t ≤ u → edges_at u f h ≤ edges_at t f h
  unfolding edges_at edges_with
  at_le t u f h le = grind (arith, nat_tests, coming_le)

  at_lt : (t u f h : ℕ) → Edge P p t u f h → edges_at u f h < edges_at t f h
  unfolding edges_at edges_with
  at_lt t u f h g =
      let y = eq-eqb (port_at P f h) p g.at in
      let a : edges_at t f h ≡ edges_with t f h = cond-true (eqb (port_at P f h) p) (edges_with t f h) 0 y in
      let b : edges_at u f h ≡ edges_with u f h = cond-true (eqb (port_at P f h) p) (edges_with u f h) 0 y in
      let c = coming_le t u (offset_at P f h - 2 * P.error) (omega (arith, g.after)) in
      let d = coming_le t u (offset_at P f h) (omega (arith, g.after)) in
      let e = coming_le t u (end_at P f h) (omega (arith, g.after)) in
      elim g.is [
        | inl i ↦ (let k = coming_lt t u (offset_at P f h - 2 * P.error) g.after i in omega arith)
        | inr j ↦ elim j [
          | inl i ↦ (let k = coming_lt t u (offset_at P f h) g.after i in omega arith)
          | inr i ↦ (let k = coming_lt t u (end_at P f h) g.after i in omega arith)
        ]
      ]

  edges_fewer : (t u f h : ℕ) → f < flow_count P → h < hop_count P f → Edge P p t u f h → edges_after u < edges_after t
  unfolding edges_after
  edges_fewer t u f h lf lh g =
      sum_lt (flow_count P) (λ f. sum (hop_count P f) (edges_at u f)) (λ f. sum (hop_count P f) (edges_at t f))
      (λ i l. sum_le (hop_count P i) (edges_at u i) (edges_at t i) (λ j m. at_le t u i j (omega (arith, g.after)))) f lf
      (sum_lt (hop_count P f) (edges_at u f) (edges_at t f) (λ j m. at_le t u f j (omega (arith, g.after))) h lh (at_lt t u f h g))

  -- a stretch ends with the cycle, or fewer edges are left
  pub stretch_fewer : (t : ℕ) → (stretch_after P p t).until < P.cycle → edges_after (stretch_after P p t).until < edges_after t
  stretch_fewer t lt = elim (until_is P p t) [
    | inl e ↦ absurd (omega arith)
    | inr (f, h, lf, lh, g) ↦ edges_fewer t (stretch_after P p t).until f h lf lh g
  ]

  with_most : (t f h : ℕ) → edges_with t f h ≤ 3
  unfolding edges_with
  with_most t f h = grind (arith, coming_most)

  -- one hop of a flow at most is at the port
  flow_most : (t f n : ℕ) → ((h k : ℕ) → h < k → k < n → port_at P f h ≡ port_at P f k → ⊥) → sum n (edges_at t f) ≤ 3
  unfolding sum edges_at
  flow_most t f zero apart = omega arith
  flow_most t f (suc n) apart = elim (cases_Bool (eqb (port_at P f n) p)) [
    | inl y ↦ (let a : edges_at t f n ≡ edges_with t f n = cond-true (eqb (port_at P f n) p) (edges_with t f n) 0 y in
        let at = eqb-true (port_at P f n) p y in
        let b = sum_none n (edges_at t f) (λ i l. cond-false (eqb (port_at P f i) p) (edges_with t f i) 0 (ne_eqb (port_at P f i) p (λ e. apart i n l (omega arith) (e ∙ sym at)))) in
        let c = with_most t f n in
        omega arith)
    | inr k ↦ (let a : edges_at t f n ≡ 0 = cond-false (eqb (port_at P f n) p) (edges_with t f n) 0 k in
        let b = flow_most t f n (λ h j lt lj. apart h j lt (omega arith)) in
        omega arith)
  ]

pub edges_most : (c : CheckedPlan) (p t : ℕ) → edges_after (checked_plan c) p t ≤ 48
unfolding edges_after
edges_most c p t =
    let P = checked_plan c in
    let a = sum_most (flow_count P) 3 (λ f. sum (hop_count P f) (edges_at P p t f)) (λ f lf. flow_most P p t f (hop_count P f) (ports_apart c.draft f lf)) in
    omega (arith, c.draft.tables.0)
