-- The lowest offsets are allowed, so that adding refuses what placing refuses.
use Rattle.std.proofs.Common.{◌≡◌, ℕ, zero, suc, ◌<◌, ◌≤◌, min, Bool, true, false, ◌&&◌, ltb, List, [], ◌∷◌, length, get_or, take, Some, None, refl, arith}
use Rattle.std.proofs.lemmas.List.{length-take}
use Rattle.std.proofs.lemmas.Bool.{both_ways, lt-ltb, eq-eqb}
use Rattle.schedule.specs.Plan.{Plan, flow_count}
use Rattle.schedule.specs.Limits.{unless, each_below, flow_allowed, route_allowed, offsets_allowed}
use Rattle.schedule.specs.Drafts.{add_refused}
use Rattle.schedule.specs.Placing.{place_refused}
use Rattle.schedule.proofs.Adding.{routed_most}

abbrev pub lowest : List ℕ
lowest = 0 ∷ 0 ∷ 0 ∷ 0 ∷ 0 ∷ 0 ∷ []

zero_more : (xs : List ℕ) → ((h : ℕ) → get_or xs h 0 ≡ 0) → (h : ℕ) → get_or (0 ∷ xs) h 0 ≡ 0
zero_more xs low zero = refl
zero_more xs low (suc h) = low h

zero_front : (xs : List ℕ) → ((h : ℕ) → get_or xs h 0 ≡ 0) → (n h : ℕ) → get_or (take n xs) h 0 ≡ 0
zero_front xs low zero h = refl
zero_front [] low (suc n) h = refl
zero_front (x ∷ xs) low (suc n) zero = low 0
zero_front (x ∷ xs) low (suc n) (suc h) = zero_front xs (λ i. low (suc i)) n h

all_zero : (h : ℕ) → get_or lowest h 0 ≡ 0
all_zero = zero_more (0 ∷ 0 ∷ 0 ∷ 0 ∷ 0 ∷ []) (zero_more (0 ∷ 0 ∷ 0 ∷ 0 ∷ []) (zero_more (0 ∷ 0 ∷ 0 ∷ []) (zero_more (0 ∷ 0 ∷ []) (zero_more (0 ∷ []) (zero_more [] (λ h. refl))))))

pub lowest_zero : (n h : ℕ) → get_or (take n lowest) h 0 ≡ 0
lowest_zero = zero_front lowest all_zero

zero_below : (bound : ℕ) → 0 < bound → (xs : List ℕ) → ((h : ℕ) → get_or xs h 0 ≡ 0) → each_below bound xs ≡ true
zero_below bound pos [] low = refl
zero_below bound pos (x ∷ xs) low = let z = low 0 in (λ i. lt-ltb x bound (omega arith) i && zero_below bound pos xs (λ h. low (suc h)) i)

pub lowest_length : (route : List ℕ) (n : ℕ) → length route ≤ 6 → n ≡ min (length route) 6 → length (take n lowest) ≡ length route
lowest_length route n most e = omega (arith, length-take n lowest)

lowest_allowed : (cycle ports : ℕ) (route : List ℕ) (n : ℕ) → 0 < cycle → n ≡ min (length route) 6 → route_allowed ports route ≡ true → offsets_allowed cycle route (take n lowest) ≡ true
lowest_allowed cycle ports route n pos e routed =
    let long = eq-eqb (length (take n lowest)) (length route) (lowest_length route n (routed_most ports route routed) e) in
    let below = zero_below cycle pos (take n lowest) (lowest_zero n) in
    (λ i. long i && below i)

never : (n : ℕ) → Some n ≡ None → ⊥
never n e = let z : ◌≡◌ {A = ℕ} 0 1 = cc in omega arith

passed : (a b c d : Bool) → unless a 1 (unless b 2 (unless c 3 (unless d 5 None))) ≡ None → (a ≡ true) × (b ≡ true) × (c ≡ true)
passed true true true true e = (refl, refl, refl)
passed true true true false e = absurd (never 5 e)
passed true true false d e = absurd (never 3 e)
passed true false c d e = absurd (never 2 e)
passed false b c d e = absurd (never 1 e)

failed : (a b c d : Bool) (n : ℕ) → (c ≡ true → d ≡ true) → unless a 1 (unless b 2 (unless c 3 (unless d 5 None))) ≡ Some n → unless a 1 (unless b 2 (unless c 3 None)) ≡ Some n
failed true true true true n q e = e
failed true true true false n q e = absurd (both_ways false refl (q refl))
failed true true false d n q e = e
failed true false c d n q e = e
failed false b c d n q e = e

module _ (P : Plan) (release octets deadline : ℕ) (route : List ℕ) (n : ℕ) where
  tests : add_refused P release octets deadline route (take n lowest) ≡ None → (ltb (flow_count P) 16 ≡ true) × (flow_allowed P.cycle release octets deadline ≡ true) × (route_allowed (length P.ports) route ≡ true)
  tests = passed (ltb (flow_count P) 16) (flow_allowed P.cycle release octets deadline) (route_allowed (length P.ports) route) (offsets_allowed P.cycle route (take n lowest))

  pub routed : add_refused P release octets deadline route (take n lowest) ≡ None → route_allowed (length P.ports) route ≡ true
  routed e = (tests e).2

  pub place_passes : add_refused P release octets deadline route (take n lowest) ≡ None → place_refused P release octets deadline route ≡ None
  place_passes e = let (a, b, c) = tests e in (λ i. unless (a i) 1 (unless (b i) 2 (unless (c i) 3 None)))

  pub refused_by_limits : 0 < P.cycle → n ≡ min (length route) 6 → (number : ℕ) → add_refused P release octets deadline route (take n lowest) ≡ Some number → place_refused P release octets deadline route ≡ Some number
  refused_by_limits pos is number e =
      failed (ltb (flow_count P) 16) (flow_allowed P.cycle release octets deadline) (route_allowed (length P.ports) route) (offsets_allowed P.cycle route (take n lowest)) number
      (lowest_allowed P.cycle (length P.ports) route n pos is) e
