-- The highest class of a set, and that class 7 is held back by no selection.
use Rattle.std.proofs.Common.{◌≡◌, ℕ, zero, suc, ◌<◌, Some, None, Option, refl, ap, arith}
use Rattle.egress.specs.Mask.{In, Within, Picks, SparesSeven}
use Rattle.egress.specs.Masks.{in_below}

-- what holds of each class holds of every number below 8
pub by_class : (P : ℕ → Type 0) → P 0 → P 1 → P 2 → P 3 → P 4 → P 5 → P 6 → P 7 → (c : ℕ) → c < 8 → P c
by_class P a b d e f g h i zero p = a
by_class P a b d e f g h i (suc zero) p = b
by_class P a b d e f g h i (suc (suc zero)) p = d
by_class P a b d e f g h i (suc (suc (suc zero))) p = e
by_class P a b d e f g h i (suc (suc (suc (suc zero)))) p = f
by_class P a b d e f g h i (suc (suc (suc (suc (suc zero))))) p = g
by_class P a b d e f g h i (suc (suc (suc (suc (suc (suc zero)))))) p = h
by_class P a b d e f g h i (suc (suc (suc (suc (suc (suc (suc zero))))))) p = i
by_class P a b d e f g h i (suc (suc (suc (suc (suc (suc (suc (suc n)))))))) p = absurd (omega arith)

-- class 7 alone is available: any selection replies it
only_seven : (c : ℕ) → c < 8 → In c 128 → c ≡ 7
only_seven = by_class (λ c. In c 128 → c ≡ 7) (λ h. omega arith) (λ h. omega arith) (λ h. omega arith) (λ h. omega arith) (λ h. omega arith) (λ h. omega arith) (λ h. omega arith) (λ h. refl)

not_held : (may h : ℕ) → SparesSeven may → Within h may → In 7 h → ⊥
not_held may h s w p = let q = w.among 7 p in let l = in_below 7 may 7 s q in omega arith

replied : (h : ℕ) (pick : ℕ → Option ℕ) → Picks h pick → (In 7 h → ⊥) → (o : Option ℕ) → pick 128 ≡ o → o ≡ Some 7
replied h pick p n None e = absurd (n (p.none 128 (omega arith) e 7 refl))
replied h pick p n (Some c) e = let t = p.class 128 c (omega arith) e in ap Some (only_seven c t.0 t.1)

pub seven_goes : (may h : ℕ) (pick : ℕ → Option ℕ) → SparesSeven may → Within h may → Picks h pick → pick 128 ≡ Some 7
seven_goes may h pick s w p = replied h pick p (not_held may h s w) (pick 128) refl
