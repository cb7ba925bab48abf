-- Masks and the tests that they are made by.
use Rattle.std.proofs.lemmas.Grind.{common_steps}
use Rattle.std.proofs.Common.{◌≡◌, ℕ, zero, suc, ◌+◌, ◌-◌, ◌*◌, ◌/◌, ◌%◌, ◌^◌, ◌<◌, Bool, true, false, cond, sym, refl, ap, ◌∙◌, inl, inr, pow-suc, add-one, arith, lit<, pow_pos, pow-add}
use native.Mathlib.Nat.{add-mul-div_left}
use Rattle.std.proofs.lemmas.Nat.{div-mul-add}
use Rattle.std.proofs.lemmas.Bool.{cases_eq, cases_Bool, and_left, and_right}
use Rattle.gates.specs.Timetable.{each}
use Rattle.egress.specs.Mask.{In}
use Rattle.network.specs.Ports.{mask_below, mask_of}

pub mask_below_lt : (n : ℕ) (a : ℕ → Bool) → mask_below n a < 2 ^ n
unfolding mask_below
mask_below_lt zero a = lit< tt
mask_below_lt (suc n) a = elim (cases_Bool (a n)) [
  | inl e ↦ rw e (omega (arith, mask_below_lt n a, pow-suc 2 n))
  | inr e ↦ rw e (omega (arith, mask_below_lt n a, pow-suc 2 n))
]

-- adding 2 ^ n leaves the bits below n
low_bit : (m c e : ℕ) → ((m + 2 ^ (c + suc e)) / 2 ^ c) % 2 ≡ (m / 2 ^ c) % 2
low_bit m c e =
    let k : 2 ^ (c + suc e) ≡ 2 ^ c * (2 ^ e * 2) = pow-add 2 c (suc e) ∙ ap (λ z. 2 ^ c * z) (pow-suc 2 e) in
    let d : (m + 2 ^ (c + suc e)) / 2 ^ c ≡ m / 2 ^ c + 2 ^ e * 2 = ap (λ z. (m + z) / 2 ^ c) k ∙ add-mul-div_left m (2 ^ e * 2) (pow_pos c) in
    omega (arith, ap (λ z. z % 2) d)

pub bit_of : (n : ℕ) (a : ℕ → Bool) (c : ℕ) → c < n → (mask_below n a / 2 ^ c) % 2 ≡ cond (a c) 1 0
unfolding mask_below
bit_of zero a c h = absurd (omega arith)
bit_of (suc n) a c h = elim (cases_eq c n) [
  | inl e ↦ rw e (top (a n))
  | inr e ↦ (let k : n ≡ c + suc (n - c - 1) = omega arith in below (a n) k ∙ bit_of n a c (omega arith))
]
  where
    top : (b : Bool) → ((mask_below n a + cond b (2 ^ n) 0) / 2 ^ n) % 2 ≡ cond b 1 0
    top true = let q : (mask_below n a + 2 ^ n) / 2 ^ n ≡ 1 = ap (λ z. z / 2 ^ n) (omega arith) ∙ div-mul-add 1 (2 ^ n) (mask_below n a) (mask_below_lt n a) in ap (λ z. z % 2) q
    top false = let q : (mask_below n a + 0) / 2 ^ n ≡ 0 = ap (λ z. z / 2 ^ n) (omega arith) ∙ div-mul-add 0 (2 ^ n) (mask_below n a) (mask_below_lt n a) in ap (λ z. z % 2) q

    below : (b : Bool) → n ≡ c + suc (n - c - 1) → ((mask_below n a + cond b (2 ^ n) 0) / 2 ^ c) % 2 ≡ (mask_below n a / 2 ^ c) % 2
    below true k = ap (λ z. ((mask_below n a + 2 ^ z) / 2 ^ c) % 2) k ∙ low_bit (mask_below n a) c (n - c - 1)
    below false k = ap (λ z. (z / 2 ^ c) % 2) (let z : mask_below n a + 0 ≡ mask_below n a = omega arith in z)

by_bit : (b : Bool) (n : ℕ) → n ≡ cond b 1 0 → n ≡ 1 → b ≡ true
by_bit b n e z = grind (arith, common_steps)

-- a class below 8 is in the mask of a test exactly if the test admits it
pub in_mask : (a : ℕ → Bool) (c : ℕ) → c < 8 → In c (mask_of a) → a c ≡ true
in_mask a c h i = by_bit (a c) ((mask_of a / 2 ^ c) % 2) (bit_of 8 a c h) i

pub mask_in : (a : ℕ → Bool) (c : ℕ) → c < 8 → a c ≡ true → In c (mask_of a)
mask_in a c h e = bit_of 8 a c h ∙ ap (λ b. cond b 1 0) e

-- a mask built class by class
pub mask_start : (a : ℕ → Bool) → 0 ≡ mask_below 0 a
unfolding mask_below
mask_start a = refl

mask_more : (n : ℕ) (a : ℕ → Bool) → mask_below (n + 1) a ≡ mask_below n a + cond (a n) (2 ^ n) 0
unfolding mask_below
mask_more n a = ap (λ m. mask_below m a) (add-one n)

pub mask_fits : (n m : ℕ) (b : Bool) → m < 2 ^ n → m + cond b (2 ^ n) 0 < 2 ^ (n + 1)
mask_fits n m b h = grind (arith, common_steps, pow-suc 2 n)

pub mask_step : (n : ℕ) (a : ℕ → Bool) (m : ℕ) (b : Bool) (r : ℕ) → m ≡ mask_below n a → b ≡ a n → r ≡ m + cond b (2 ^ n) 0 → r ≡ mask_below (n + 1) a
mask_step n a m b r e f g = g ∙ (λ i. e i + cond (f i) (2 ^ n) 0) ∙ sym (mask_more n a)

-- what fails at one fails of each
pub each_not : (n : ℕ) (q : ℕ → Bool) (i : ℕ) → i < n → q i ≡ false → each n q ≡ false
each_not zero q i h e = absurd (omega arith)
each_not (suc n) q i h e = elim (cases_eq i n) [ inl c ↦ and_left (q n) (each n q) (ap q (sym c) ∙ e) | inr c ↦ and_right (q n) (each n q) (each_not n q i (omega arith) e) ]
