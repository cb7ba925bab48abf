-- Bits of sets of classes, and that replying the highest class left is a selection.
use Rattle.std.specs.Prelude.{◌≡◌, ℕ, ◌+◌, ◌-◌, ◌/◌, ◌%◌, ◌^◌, ◌<◌, Some, None, Option, ◌==◌, ◌≢◌, bit_or, Bool, true, false, cond}
use Rattle.std.proofs.Common.{sym, ap, subst, ◌∙◌, ⊎_elim, mod-eq_of_lt, pow-suc, arith, lit<, w8}
use Rattle.std.specs.Int.Count.{count_leading_zeros}
use Rattle.std.proofs.lemmas.Nat.{div-mul-add, and_mask, and_le_l, leading_top}
use Rattle.std.proofs.lemmas.Nat.Bits.{bit_at_and, bit_at_or, bit_at_not, bit_at-zero, bit_at_above}
use Rattle.std.proofs.lemmas.Bool.{eq-eqb, ne_eqb, cases_eq, cases_lt, cond-true, cond-false}
use Rattle.egress.specs.Mask.{left, In, highest, Within, Picks}

-- a set has no class past 7
pub in_below : (k a c : ℕ) → a < 2 ^ k → In c a → c < k
in_below k a c b h = ⊎_elim (λ l. l) (λ l. let z = bit_at_above a k c b l in absurd (omega arith)) (cases_lt c k)

in_left : (a h c : ℕ) → h < 256 → c < 8 → In c (left a h) → In c a × (In c h → ⊥)
in_left a h c b l p = let e = bit_at_and a (255 - h) c in let r = bit_at_not w8 h c b l in (omega arith, λ q. omega arith)

left_in : (a h c : ℕ) → h < 256 → c < 8 → In c a → (In c h → ⊥) → In c (left a h)
left_in a h c b l p q = let e = bit_at_and a (255 - h) c in let r = bit_at_not w8 h c b l in ⊎_elim (λ z. absurd (q z)) (λ z. omega arith) (cases_eq ((h / 2 ^ c) % 2) 1)

-- a set with no class has no highest one
pub highest_none : (m : ℕ) → m ≡ 0 → highest m ≡ None
highest_none m e = cond-true (m == 0) _ _ (eq-eqb m 0 e)

-- a set with a class has a highest one, by its leading zeros
pub highest_some : (m : ℕ) → (m ≢ 0) → highest m ≡ Some (7 - count_leading_zeros 8 m)
highest_some m e = cond-false (m == 0) _ _ (ne_eqb m 0 e)

top_in : (m : ℕ) → 0 < m → m < 256 → (7 - count_leading_zeros 8 m < 8) × In (7 - count_leading_zeros 8 m) m
top_in m p b =
    let t = leading_top 8 m p b in
    let j = t.0 in
    let e : 7 - count_leading_zeros 8 m ≡ j = omega arith in
    let w : m < 2 ^ j + 2 ^ j = omega (arith, pow-suc 2 j) in
    let q : m / 2 ^ j ≡ 1 = ap (λ n. n / 2 ^ j) (omega arith) ∙ div-mul-add 1 (2 ^ j) (m - 2 ^ j) (omega arith) in
    (omega arith, subst (λ c. In c m) (sym e) (ap (λ n. n % 2) q))

-- no class is in the set with none
pub in_none : (c : ℕ) → In c 0 → ⊥
in_none c h = omega (arith, bit_at-zero c)

module _ (h : ℕ) (pick : ℕ → Option ℕ) (b : h < 256) (is : (a : ℕ) → a < 256 → pick a ≡ highest (left a h)) where
  empty_left : (a : ℕ) → a < 256 → pick a ≡ None → left a h ≡ 0
  empty_left a l e = ⊎_elim (λ z. z) (λ z. let s = highest_some (left a h) z in let i = is a l in cc) (cases_eq (left a h) 0)

  none_left : (a : ℕ) → a < 256 → ((c : ℕ) → In c a → In c h) → left a h ≡ 0
  none_left a l all = ⊎_elim (λ z. z)
      (λ z. let t = top_in (left a h) (omega arith) (omega (arith, and_le_l a (255 - h))) in
      let q = in_left a h (7 - count_leading_zeros 8 (left a h)) b t.0 t.1 in absurd (q.1 (all (7 - count_leading_zeros 8 (left a h)) q.0)))
      (cases_eq (left a h) 0)

  pub highest_picks : Picks h pick
  highest_picks = record {
    none = λ a l e c p. ⊎_elim (λ z. z)
        (λ z. absurd (in_none c (subst (In c) (empty_left a l e) (left_in a h c b (in_below 8 a c l p) p z))))
        (cases_eq ((h / 2 ^ c) % 2) 1);
    only = λ a l all. is a l ∙ highest_none (left a h) (none_left a l all);
    class = λ a c l e. ⊎_elim
        (λ z. let s = highest_none (left a h) z in let i = is a l in cc)
        (λ z. let s = highest_some (left a h) z in let i = is a l in let k : 7 - count_leading_zeros 8 (left a h) ≡ c = cc in
        let t = subst (λ d. (d < 8) × In d (left a h)) k (top_in (left a h) (omega arith) (omega (arith, and_le_l a (255 - h)))) in
        let q = in_left a h c b t.0 t.1 in (t.0, q.0, q.1))
        (cases_eq (left a h) 0);
  }

-- where none is held back, all are left
pub left_none : (a : ℕ) → a < 256 → left a 0 ≡ a
left_none a l = and_mask a 8 ∙ mod-eq_of_lt l

-- a class of either set is in their join
pub in_or_l : (c m n : ℕ) → In c m → In c (bit_or m n)
in_or_l c m n h = omega (arith, bit_at_or m n c)

-- likewise from the other side
pub in_or_r : (c m n : ℕ) → In c n → In c (bit_or m n)
in_or_r c m n h = omega (arith, bit_at_or m n c)

-- no class is held back
pub none_within : Within 0 0
none_within = record { mask = lit< tt; among = λ c h. h }

-- a shaper holds back only classes of its mask: 6 and 5, each held back or not
pub held_within : (x y : Bool) → Within (cond x 64 0 + cond y 32 0) 96
held_within true true = record { mask = lit< tt; among = λ c h. h }
held_within true false = record { mask = lit< tt; among = λ c h. in_or_l c 64 32 h }
held_within false true = record { mask = lit< tt; among = λ c h. in_or_r c 64 32 h }
held_within false false = record { mask = lit< tt; among = λ c h. absurd (in_none c h) }
