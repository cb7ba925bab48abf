-- One more at the end of a ring, and one less at its front.
use Rattle.std.proofs.Common.{◌≡◌, ℕ, zero, suc, ◌+◌, ◌-◌, ◌<◌, ◌≤◌, ◌⊎◌, List, [], ◌∷◌, ◌++◌, length, get_or, take, drop, set, Some, sym, ap, ◌∙◌, ⊎_elim, arith, length-append, length-drop, length-set}
use Rattle.std.proofs.lemmas.List.{get_or_append_left, get_or-take, get_or-drop, get_or_push, length-take-le, length_push, same_lists, drop_at, take-append-le}
use Rattle.std.proofs.lemmas.Bool.{cases_lt}
use Rattle.std.proofs.lemmas.Bool.Decides.{nat_tests}
use Rattle.std.proofs.lemmas.Grind.{common_steps}
use Rattle.egress.specs.declared.line.Line.{Line}
use Rattle.egress.specs.Waiting.{begins, number, round, ring, waits, front, rest}

pub begins_below : (room : ℕ) (l : Line) → 0 < room → begins room l < room
begins_below room l p = grind (arith, nat_tests)

begins_within : (room : ℕ) (l : Line) → begins room l ≤ room
begins_within room l = grind (arith, nat_tests)

begins_same : (room h n : ℕ) → h < room → begins room (record { head = h; count = n }) ≡ h
begins_same room h n p = grind (arith, nat_tests)

pub round_is : (room h k : ℕ) → h < room → k ≤ room → (round room h k < room) × ((h + k ≡ round room h k) ⊎ (h + k ≡ round room h k + room))
round_is room h k p q = grind (arith, nat_tests)

module _ {T : Type 0} where
  length_ring : (xs : List T) (h n : ℕ) → h ≤ length xs → n ≤ length xs → length (ring xs h n) ≡ n
  length_ring xs h n p q = length-take-le n (drop h (xs ++ xs)) (simp (length-drop, length-append) (omega arith))

  pub length_waits : (xs : List T) (l : Line) → length (waits xs l) ≡ number (length xs) l
  unfolding waits
  length_waits xs l = length_ring xs (begins (length xs) l) (number (length xs) l) (begins_within (length xs) l) (omega arith)

  waits_at : (xs : List T) (h n : ℕ) → h < length xs → n ≤ length xs → waits xs (record { head = h; count = n }) ≡ ring xs h n
  unfolding waits
  waits_at xs h n p q =
      let e : number (length xs) (record { head = h; count = n }) ≡ n = omega arith in
      ap (ring xs (begins (length xs) (record { head = h; count = n }))) e ∙ ap (λ i. ring xs i n) (begins_same (length xs) h n p)

  ring_at : (xs : List T) (h n k : ℕ) (d : T) → k < n → get_or (ring xs h n) k d ≡ get_or (xs ++ xs) (h + k) d
  ring_at xs h n k d p = get_or-take n (drop h (xs ++ xs)) k d p ∙ get_or-drop h (xs ++ xs) k d

  other : (xs : List T) (j i : ℕ) (x d : T) → (i ≡ j → ⊥) → (i ≡ j + length xs → ⊥) → get_or (set xs j x ++ set xs j x) i d ≡ get_or (xs ++ xs) i d
  other xs j i x d p q = grind (arith, common_steps)

  here : (xs : List T) (j i : ℕ) (x d : T) → j < length xs → (i ≡ j) ⊎ (i ≡ j + length xs) → get_or (set xs j x ++ set xs j x) i d ≡ x
  here xs j i x d l w = grind (arith, common_steps)

  ring_push : (xs : List T) (h n j : ℕ) (x : T) → h < length xs → n < length xs → j < length xs → (h + n ≡ j) ⊎ (h + n ≡ j + length xs) → ring (set xs j x) h (n + 1) ≡ ring xs h n ++ x ∷ []
  ring_push xs h n j x p q r w =
      let a : length (ring (set xs j x) h (n + 1)) ≡ n + 1 = length_ring (set xs j x) h (n + 1) (omega (arith, length-set xs j x)) (omega (arith, length-set xs j x)) in
      let b : length (ring xs h n) ≡ n = length_ring xs h n (omega arith) (omega arith) in
      same_lists _ _ (a ∙ sym (length_push (ring xs h n) x ∙ ap (λ m. m + 1) b))
      (λ k d l. ⊎_elim
      (λ z. ring_at (set xs j x) h (n + 1) k d (omega arith) ∙ other xs j (h + k) x d (λ y. grind arith) (λ y. grind arith) ∙ sym (get_or_append_left (ring xs h n) (x ∷ []) d k (omega arith) ∙ ring_at xs h n k d z))
      (λ z. ring_at (set xs j x) h (n + 1) k d (omega arith) ∙ here xs j (h + k) x d r (grind arith) ∙ sym (get_or_push (ring xs h n) x d k (omega arith)))
      (cases_lt k n))

  -- the first, and those after it
  split : (xs : List T) (h m : ℕ) (x : T) → h < length xs → x ≡ get_or xs h x → ring xs h (suc m) ≡ x ∷ take m (drop (h + 1) (xs ++ xs))
  split xs h m x p e = grind (arith, common_steps)

  ring_front : (xs : List T) (h n : ℕ) (x : T) → h < length xs → 0 < n → x ≡ get_or xs h x → Some x ≡ front (ring xs h n)
  ring_front xs h zero x p q e = absurd (omega arith)
  ring_front xs h (suc m) x p q e = sym (ap front (split xs h m x p e))

  ring_rest : (xs : List T) (h n j : ℕ) (x : T) → h < length xs → 0 < n → n ≤ length xs → x ≡ get_or xs h x → (h + 1 ≡ j) ⊎ (h + 1 ≡ j + length xs) → j < length xs → ring xs j (n - 1) ≡ rest (ring xs h n)
  ring_rest xs h zero j x p q l e w b = absurd (omega arith)
  ring_rest xs h (suc m) j x p q l e w b =
      let s : suc m - 1 ≡ m = omega arith in
      ap (ring xs j) s ∙ ⊎_elim
      (λ z. ap (λ i. take m (drop i (xs ++ xs))) (sym z))
      (λ z. let y : j ≡ 0 = omega arith in let v : length xs ≡ h + 1 = omega arith in
      ap (λ i. take m (drop i (xs ++ xs))) y ∙ take-append-le m xs xs (omega arith) ∙ sym (ap (take m) (drop_at xs xs (h + 1) v)))
      w ∙ sym (ap rest (split xs h m x p e))

  -- a line with room, and one more
  pub more_waits : (xs : List T) (l : Line) (x : T) → number (length xs) l < length xs → waits (set xs (round (length xs) (begins (length xs) l) (number (length xs) l)) x) (record { head = begins (length xs) l; count = number (length xs) l + 1 }) ≡ waits xs l ++ x ∷ []
  unfolding waits
  more_waits xs l x p =
      let h = begins (length xs) l in
      let n = number (length xs) l in
      let j = round (length xs) h n in
      let b = begins_below (length xs) l (omega arith) in
      let w = round_is (length xs) h n b (omega arith) in
      let e = length-set xs j x in
      waits_at (set xs j x) h (n + 1) (omega arith) (omega arith) ∙ ring_push xs h n j x b p w.0 w.1

  -- an empty line
  pub none_waits : (xs : List T) (l : Line) → number (length xs) l ≡ 0 → waits xs l ≡ []
  unfolding waits
  none_waits xs l e = ap (ring xs (begins (length xs) l)) e

  -- the first of a line that is not empty
  pub first_waits : (xs : List T) (l : Line) (x : T) → 0 < number (length xs) l → x ≡ get_or xs (begins (length xs) l) x → Some x ≡ front (waits xs l)
  unfolding waits
  first_waits xs l x p e = ring_front xs (begins (length xs) l) (number (length xs) l) x (begins_below (length xs) l (omega arith)) p e

  -- a line that is not empty, and one less
  pub less_waits : (xs : List T) (l : Line) (x : T) → 0 < number (length xs) l → x ≡ get_or xs (begins (length xs) l) x → waits xs (record { head = round (length xs) (begins (length xs) l) 1; count = number (length xs) l - 1 }) ≡ rest (waits xs l)
  unfolding waits
  less_waits xs l x p e =
      let h = begins (length xs) l in
      let n = number (length xs) l in
      let b = begins_below (length xs) l (omega arith) in
      let w = round_is (length xs) h 1 b (omega arith) in
      waits_at xs (round (length xs) h 1) (n - 1) w.0 (omega arith) ∙ ring_rest xs h n (round (length xs) h 1) x b p (omega arith) e w.1 w.0
