-- Between two edges the octet stays.
use Rattle.std.proofs.Common.{◌≡◌, ℕ, zero, suc, ◌+◌, ◌-◌, ◌*◌, ◌<◌, ◌≤◌, Bool, ◌&&◌, ◌||◌, eqb, ltb, leb, ◌⊎◌, sym, refl, ap, ◌∙◌, subst, inl, inr, arith}
use Rattle.std.proofs.lemmas.Bool.Decides.{nat_tests}
use Rattle.std.proofs.lemmas.Bool.{cases_eq, cases_Bool, eqb-true}
use Rattle.schedule.specs.Plan.{Plan, flow_count, hop_count, port_at, offset_at, end_at}
use Rattle.gates.specs.declared.list.stretch.Stretch.{Stretch}
use Rattle.gates.specs.Octets.{some, inside, ahead, octet_by, octet_at}
use Rattle.gates.specs.Scan.{nearer, until_with, stretch_at, stretch_hops, stretch_flows, open_stretch, stretch_after}

-- an edge is not between a tick and a later one
abbrev pub Off : ℕ → ℕ → ℕ → Type 0
Off t u e = (e ≤ t) ⊎ (u ≤ e)

near_le : (t e n : ℕ) → nearer t e n ≤ n
near_le t e n = grind (arith, nat_tests)

near_gt : (t e n : ℕ) → t < n → t < nearer t e n
near_gt t e n h = grind (arith, nat_tests)

near_off : (t e n : ℕ) → Off t (nearer t e n) e
near_off t e n = grind (arith, nat_tests)

-- it is the one known before, or the edge
near_is : (t e n : ℕ) → (nearer t e n ≡ n) ⊎ ((nearer t e n ≡ e) × (t < e))
near_is t e n = grind (arith, nat_tests)

off_sooner : (t u v e : ℕ) → v ≤ u → Off t u e → Off t v e
off_sooner t u v e le h = grind arith

-- no edge of the window of hop h of flow f lies between
pub record Quiet (P : Plan) (t u f h : ℕ) : Type 0 where
  pub guard : Off t u (offset_at P f h - 2 * P.error)
  pub begin : Off t u (offset_at P f h)
  pub end : Off t u (end_at P f h)

quiet_sooner : (P : Plan) (t u v f h : ℕ) → v ≤ u → Quiet P t u f h → Quiet P t v f h
quiet_sooner P t u v f h le q = record { guard = off_sooner t u v (offset_at P f h - 2 * P.error) le q.guard; begin = off_sooner t u v (offset_at P f h) le q.begin; end = off_sooner t u v (end_at P f h) le q.end }

-- u is an edge of that window, after t
pub record Edge (P : Plan) (p t u f h : ℕ) : Type 0 where
  pub at : port_at P f h ≡ p
  pub after : t < u
  pub is : (u ≡ offset_at P f h - 2 * P.error) ⊎ ((u ≡ offset_at P f h) ⊎ (u ≡ end_at P f h))

module _ (P : Plan) (p t : ℕ) where
  -- one window
  with_le : (f h u : ℕ) → until_with t (offset_at P f h - 2 * P.error) (offset_at P f h) (end_at P f h) u ≤ u
  with_le f h u = grind (arith, near_le)

  with_gt : (f h u : ℕ) → t < u → t < until_with t (offset_at P f h - 2 * P.error) (offset_at P f h) (end_at P f h) u
  with_gt f h u lt = grind (arith, near_gt)

  with_quiet : (f h u : ℕ) → Quiet P t (until_with t (offset_at P f h - 2 * P.error) (offset_at P f h) (end_at P f h) u) f h
  with_quiet f h u =
      let g = offset_at P f h - 2 * P.error in
      let o = offset_at P f h in
      let e = end_at P f h in
      let b = near_le t o (nearer t g u) in
      let c = near_le t e (nearer t o (nearer t g u)) in
      record {
        guard = off_sooner t (nearer t g u) (until_with t g o e u) g (omega arith) (near_off t g u);
        begin = off_sooner t (nearer t o (nearer t g u)) (until_with t g o e u) o c (near_off t o (nearer t g u));
        end = near_off t e (nearer t o (nearer t g u));
      }

  with_is : (f h u : ℕ) → port_at P f h ≡ p → (until_with t (offset_at P f h - 2 * P.error) (offset_at P f h) (end_at P f h) u ≡ u)
      ⊎ Edge P p t (until_with t (offset_at P f h - 2 * P.error) (offset_at P f h) (end_at P f h) u) f h
  with_is f h u at = grind (arith, near_is)

  -- one hop
  hop_until : (f h : ℕ) (s : Stretch) (Q : ℕ → Type 0) → (port_at P f h ≡ p → Q (until_with t (offset_at P f h - 2 * P.error) (offset_at P f h) (end_at P f h) s.until))
      → ((port_at P f h ≡ p → ⊥) → Q s.until) → Q (stretch_at P p t f h s).until
  hop_until f h s Q yes_at no_at = grind (arith, nat_tests)

  hop_le : (f h : ℕ) (s : Stretch) → (stretch_at P p t f h s).until ≤ s.until
  hop_le f h s = hop_until f h s (λ u. u ≤ s.until) (λ e. with_le f h s.until) (λ e. omega arith)

  hop_gt : (f h : ℕ) (s : Stretch) → t < s.until → t < (stretch_at P p t f h s).until
  hop_gt f h s lt = hop_until f h s (λ u. t < u) (λ e. with_gt f h s.until lt) (λ e. lt)

  hop_quiet : (f h : ℕ) (s : Stretch) → port_at P f h ≡ p → Quiet P t (stretch_at P p t f h s).until f h
  hop_quiet f h s at = hop_until f h s (λ u. Quiet P t u f h) (λ e. with_quiet f h s.until) (λ e. absurd (e at))

  hop_is : (f h : ℕ) (s : Stretch) → ((stretch_at P p t f h s).until ≡ s.until) ⊎ Edge P p t (stretch_at P p t f h s).until f h
  hop_is f h s = hop_until f h s (λ u. (u ≡ s.until) ⊎ Edge P p t u f h) (λ e. with_is f h s.until e) (λ e. inl refl)

  -- the first n hops of a flow
  hops_le : (f : ℕ) (s : Stretch) (n : ℕ) → (stretch_hops P p t f s n).until ≤ s.until
  hops_le f s zero = omega arith
  hops_le f s (suc n) = let a = hop_le f n (stretch_hops P p t f s n) in let b = hops_le f s n in omega arith

  hops_gt : (f : ℕ) (s : Stretch) (n : ℕ) → t < s.until → t < (stretch_hops P p t f s n).until
  hops_gt f s zero lt = lt
  hops_gt f s (suc n) lt = hop_gt f n (stretch_hops P p t f s n) (hops_gt f s n lt)

  hops_quiet : (f : ℕ) (s : Stretch) (n h : ℕ) → h < n → port_at P f h ≡ p → Quiet P t (stretch_hops P p t f s n).until f h
  hops_quiet f s zero h lt at = absurd (omega arith)
  hops_quiet f s (suc n) h lt at = elim (cases_eq h n) [
    | inl e ↦ subst (λ k. Quiet P t (stretch_hops P p t f s (suc n)).until f k) (sym e) (hop_quiet f n (stretch_hops P p t f s n) (ap (port_at P f) (sym e) ∙ at))
    | inr e ↦ quiet_sooner P t _ _ f h (hop_le f n (stretch_hops P p t f s n)) (hops_quiet f s n h (omega arith) at)
  ]

  hops_is : (f : ℕ) (s : Stretch) (n : ℕ) → ((stretch_hops P p t f s n).until ≡ s.until) ⊎ ((h : ℕ) × (h < n) × Edge P p t (stretch_hops P p t f s n).until f h)
  hops_is f s zero = inl refl
  hops_is f s (suc n) = elim (hop_is f n (stretch_hops P p t f s n)) [
    | inr e ↦ inr (n, omega arith, e)
    | inl e ↦ elim (hops_is f s n) [
      | inl k ↦ inl (e ∙ k)
      | inr k ↦ inr (k.0, omega arith, subst (λ u. Edge P p t u f k.0) (sym e) k.2)
    ]
  ]

  -- the first n flows
  abbrev after : ℕ → ℕ
  after n = (stretch_flows P p t (open_stretch P) n).until

  flows_le : (n : ℕ) → after n ≤ P.cycle
  flows_le zero = omega arith
  flows_le (suc n) = let a = hops_le n (stretch_flows P p t (open_stretch P) n) (hop_count P n) in let b = flows_le n in omega arith

  flows_gt : (n : ℕ) → t < P.cycle → t < after n
  flows_gt zero lt = lt
  flows_gt (suc n) lt = hops_gt n (stretch_flows P p t (open_stretch P) n) (hop_count P n) (flows_gt n lt)

  flows_quiet : (n f h : ℕ) → f < n → h < hop_count P f → port_at P f h ≡ p → Quiet P t (after n) f h
  flows_quiet zero f h lf lh at = absurd (omega arith)
  flows_quiet (suc n) f h lf lh at = elim (cases_eq f n) [
    | inl e ↦ subst (λ k. Quiet P t (after (suc n)) k h) (sym e)
        (hops_quiet n (stretch_flows P p t (open_stretch P) n) (hop_count P n) h (subst (λ k. h < hop_count P k) e lh) (ap (λ k. port_at P k h) (sym e) ∙ at))
    | inr e ↦ quiet_sooner P t (after n) (after (suc n)) f h (hops_le n (stretch_flows P p t (open_stretch P) n) (hop_count P n)) (flows_quiet n f h (omega arith) lh at)
  ]

  flows_is : (n : ℕ) → (after n ≡ P.cycle) ⊎ ((f h : ℕ) × (f < n) × (h < hop_count P f) × Edge P p t (after n) f h)
  flows_is zero = inl refl
  flows_is (suc n) = elim (hops_is n (stretch_flows P p t (open_stretch P) n) (hop_count P n)) [
    | inr e ↦ inr (n, e.0, omega arith, e.1, e.2)
    | inl e ↦ elim (flows_is n) [
      | inl k ↦ inl (e ∙ k)
      | inr k ↦ inr (k.0, k.1, omega arith, k.3, subst (λ u. Edge P p t u k.0 k.1) (sym e) k.4)
    ]
  ]

  -- the whole
  pub until_le : (stretch_after P p t).until ≤ P.cycle
  unfolding stretch_after
  until_le = flows_le (flow_count P)

  pub until_gt : t < P.cycle → t < (stretch_after P p t).until
  unfolding stretch_after
  until_gt = flows_gt (flow_count P)

  pub until_quiet : (f h : ℕ) → f < flow_count P → h < hop_count P f → port_at P f h ≡ p → Quiet P t (stretch_after P p t).until f h
  unfolding stretch_after
  until_quiet = flows_quiet (flow_count P)

  pub until_is : ((stretch_after P p t).until ≡ P.cycle) ⊎ ((f h : ℕ) × (f < flow_count P) × (h < hop_count P f) × Edge P p t (stretch_after P p t).until f h)
  unfolding stretch_after
  until_is = flows_is (flow_count P)

some_same : (n : ℕ) (q r : ℕ → Bool) → ((i : ℕ) → i < n → q i ≡ r i) → some n q ≡ some n r
some_same zero q r e = refl
some_same (suc n) q r e = λ i. e n (omega arith) i || some_same n q r (λ k l. e k (omega arith)) i

leb_same : (o t x u : ℕ) → t ≤ x → x < u → Off t u o → leb o x ≡ leb o t
leb_same o t x u a b h = grind (arith, nat_tests)

ltb_same : (e t x u : ℕ) → t ≤ x → x < u → Off t u e → ltb x e ≡ ltb t e
ltb_same e t x u a b h = grind (arith, nat_tests)

near_same : (o d t x u : ℕ) → t ≤ x → x < u → Off t u (o - d) → leb o (x + d) ≡ leb o (t + d)
near_same o d t x u a b h = grind (arith, nat_tests)

module _ (P : Plan) (p t x : ℕ) (le : t ≤ x) (lt : x < (stretch_after P p t).until) where
  abbrev u : ℕ
  u = (stretch_after P p t).until

  inside_same : (f h : ℕ) → f < flow_count P → h < hop_count P f → inside P p x f h ≡ inside P p t f h
  inside_same f h lf lh = elim (cases_Bool (eqb (port_at P f h) p)) [
    | inr n ↦ (λ i. n i && (leb (offset_at P f h) x && ltb x (end_at P f h))) ∙ sym (λ i. n i && (leb (offset_at P f h) t && ltb t (end_at P f h)))
    | inl y ↦ (let q = until_quiet P p t f h lf lh (eqb-true (port_at P f h) p y) in
        λ i. eqb (port_at P f h) p && (leb_same (offset_at P f h) t x u le lt q.begin i && ltb_same (end_at P f h) t x u le lt q.end i))
  ]

  ahead_same : (f h : ℕ) → f < flow_count P → h < hop_count P f → ahead P p x f h ≡ ahead P p t f h
  ahead_same f h lf lh = elim (cases_Bool (eqb (port_at P f h) p)) [
    | inr n ↦ (λ i. n i && (ltb x (offset_at P f h) && leb (offset_at P f h) (x + 2 * P.error))) ∙ sym (λ i. n i && (ltb t (offset_at P f h) && leb (offset_at P f h) (t + 2 * P.error)))
    | inl y ↦ (let q = until_quiet P p t f h lf lh (eqb-true (port_at P f h) p y) in
        λ i. eqb (port_at P f h) p && (ltb_same (offset_at P f h) t x u le lt q.begin i && near_same (offset_at P f h) (2 * P.error) t x u le lt q.guard i))
  ]

  pub octet_stays : octet_at P p x ≡ octet_at P p t
  unfolding octet_at
  octet_stays =
      let w = some_same (flow_count P) (λ f. some (hop_count P f) (inside P p x f)) (λ f. some (hop_count P f) (inside P p t f))
      (λ f lf. some_same (hop_count P f) (inside P p x f) (inside P p t f) (λ h lh. inside_same f h lf lh)) in
      let g = some_same (flow_count P) (λ f. some (hop_count P f) (ahead P p x f)) (λ f. some (hop_count P f) (ahead P p t f))
      (λ f lf. some_same (hop_count P f) (ahead P p x f) (ahead P p t f) (λ h lh. ahead_same f h lf lh)) in
      λ i. octet_by (w i) (g i)
