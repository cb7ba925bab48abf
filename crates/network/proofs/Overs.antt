-- Lists changed at every place, and listed numbers.
use Rattle.std.proofs.lemmas.Grind.{common_steps}
use Rattle.std.proofs.Common.{◌≡◌, ℕ, zero, suc, ◌+◌, ◌<◌, Bool, cond, List, [], ◌∷◌, ◌++◌, length, get_or, sym, refl, ap, ◌∙◌, add-zero, arith}
use Rattle.network.specs.Ports.{listed}
use Rattle.network.specs.Tables.{over}

pub length_over : {A B : Type 0} (g : ℕ → A → B) (k : ℕ) (xs : List A) → length (over g k xs) ≡ length xs
length_over g k [] = refl
length_over g k (x ∷ xs) = ap suc (length_over g (suc k) xs)

over_from : {A B : Type 0} (g : ℕ → A → B) (k : ℕ) (xs : List A) (i : ℕ) (d : A) (e : B) → i < length xs → get_or (over g k xs) i e ≡ g (k + i) (get_or xs i d)
over_from g k [] i d e h = absurd (omega arith)
over_from g k (x ∷ xs) zero d e h = ap (λ j. g j x) (sym (add-zero k))
over_from g k (x ∷ xs) (suc i) d e h = over_from g (suc k) xs i d e (omega arith) ∙ ap (λ j. g j (get_or xs i d)) (let q : suc k + i ≡ k + suc i = omega arith in q)

pub over_at : {A B : Type 0} (g : ℕ → A → B) (xs : List A) (i : ℕ) (d : A) (e : B) → i < length xs → get_or (over g 0 xs) i e ≡ g i (get_or xs i d)
over_at g xs i d e h = grind (arith, common_steps, over_from)

pub listed_same : (k : ℕ) (q r : ℕ → Bool) → ((f : ℕ) → f < k → q f ≡ r f) → listed k q ≡ listed k r
listed_same zero q r h = refl
listed_same (suc k) q r h = λ i. listed_same k q r (λ f l. h f (omega arith)) i ++ cond (h k (omega arith) i) (k ∷ []) []
