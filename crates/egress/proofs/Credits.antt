-- Runs of passes alike.
use Rattle.std.proofs.Common.{◌≡◌, ℕ, zero, suc, ◌+◌, ◌-◌, ◌*◌, ◌/◌, ◌%◌, ◌^◌, ◌<◌, Bool, true, false, cond, ℤ, pos, negsuc, ◌+ℤ◌, ◌-ℤ◌, Some, None, Option, sym, refl, ap, ◌∙◌, suc-mul, zero-mul, arith}
use lib.Signed.{lt_z}
use Rattle.std.proofs.lemmas.Int.{ints}
use Rattle.std.proofs.lemmas.Bool.{eq-eqb, both_ways}
use Rattle.egress.specs.declared.shaped.Shaped.{Shaped}
use Rattle.egress.specs.declared.shaper.Shaper.{Shaper}
use Rattle.egress.specs.Credit.{Limited, stopped, turned, held_back, passed_on}
use Rattle.egress.specs.Mask.{In, has, sends}
use Rattle.egress.specs.Figures.{turns, passes, Gains, Spends, QuarterOf, Quarter, QuarterOfFive}

pub stopped_same : (z : ℤ) → Limited z → stopped z ≡ z
stopped_same z h = grind (arith, ints)

stop_gain : (z : ℤ) (a b : ℕ) → Limited z → stopped (stopped (z +ℤ pos a) +ℤ pos b) ≡ stopped (z +ℤ pos (a + b))
stop_gain z a b h = grind (arith, ints)

stop_spend : (z : ℤ) (a s : ℕ) → s < 1000 → Limited z → stopped (stopped (z -ℤ pos a) +ℤ pos s +ℤ negsuc 999) ≡ stopped (z -ℤ pos (a + (1000 - s)))
stop_spend z a s p h = grind (arith, ints)

pub turns_slope : (n : ℕ) (wire waits gate : Bool) (s : Shaped) → (turns n wire waits gate s).slope ≡ s.slope
unfolding turns
turns_slope zero wire waits gate s = refl
turns_slope (suc n) wire waits gate s = turns_slope n wire waits gate s

pub gains : Gains
unfolding turns
gains s zero = let e : s.credit ≡ s.credit +ℤ pos (0 * s.slope) = omega (arith, ints) in sym (stopped_same s.credit s.limited) ∙ ap stopped e
gains s (suc n) =
    let e : n * s.slope + s.slope ≡ suc n * s.slope = sym (suc-mul n s.slope) in
    ap (λ m. stopped ((turns n false true true s).credit +ℤ pos m)) (turns_slope n false true true s)
    ∙ ap (λ y. stopped (y +ℤ pos s.slope)) (gains s n)
    ∙ stop_gain s.credit (n * s.slope) s.slope s.limited
    ∙ ap (λ m. stopped (s.credit +ℤ pos m)) e

pub spends : Spends
unfolding turns
spends s zero waits gate = let e : s.credit ≡ s.credit -ℤ pos (0 * (1000 - s.slope)) = omega (arith, ints, zero-mul (1000 - s.slope)) in sym (stopped_same s.credit s.limited) ∙ ap stopped e
spends s (suc n) waits gate =
    let d = 1000 - s.slope in
    let e : n * d + d ≡ suc n * d = sym (suc-mul n d) in
    ap (λ m. stopped ((turns n true waits gate s).credit +ℤ pos m +ℤ negsuc 999)) (turns_slope n true waits gate s)
    ∙ ap (λ y. stopped (y +ℤ pos s.slope +ℤ negsuc 999)) (spends s n waits gate)
    ∙ stop_spend s.credit (n * d) s.slope s.share.1 s.limited
    ∙ ap (λ m. stopped (s.credit -ℤ pos m)) e

-- a class with a quarter of the link sends for 100 ticks from credit 0, then waits for n
module _ (s : Shaped) (slope : s.slope ≡ 250) (credit : s.credit ≡ pos 0) where
  spent : (n : ℕ) → (turns n true true true s).credit ≡ stopped (pos 0 -ℤ pos (n * 750))
  spent n = spends s n true true ∙ ap (λ z. stopped (z -ℤ pos (n * (1000 - s.slope)))) credit ∙ ap (λ m. stopped (pos 0 -ℤ pos (n * (1000 - m)))) slope

  won : (n : ℕ) → (turns n false true true s).credit ≡ stopped (pos 0 +ℤ pos (n * 250))
  won n = gains s n ∙ ap (λ z. stopped (z +ℤ pos (n * s.slope))) credit ∙ ap (λ m. stopped (pos 0 +ℤ pos (n * m))) slope

  pub stops : ((turns 7999 false true true s).credit ≡ pos 1999750) × ((turns 8000 false true true s).credit ≡ pos 2000000) × ((turns 8001 false true true s).credit ≡ pos 2000000)
      × ((turns 2666 true true true s).credit ≡ negsuc 1999499) × ((turns 2667 true true true s).credit ≡ negsuc 1999999) × ((turns 2668 true true true s).credit ≡ negsuc 1999999)
  stops = (won 7999, won 8000, won 8001, spent 2666, spent 2667, spent 2668)

  sent : (waits gate : Bool) → (turns 100 true waits gate s).credit ≡ negsuc 74999
  sent waits gate = spends s 100 waits gate ∙ ap (λ z. stopped (z -ℤ pos (100 * (1000 - s.slope)))) credit ∙ ap (λ m. stopped (pos 0 -ℤ pos (100 * (1000 - m)))) slope

  then : (n : ℕ) (waits gate : Bool) → (turns n false true true (turns 100 true waits gate s)).credit ≡ stopped (negsuc 74999 +ℤ pos (n * 250))
  then n waits gate =
      let t = turns 100 true waits gate s in
      gains t n ∙ ap (λ z. stopped (z +ℤ pos (n * t.slope))) (sent waits gate) ∙ ap (λ m. stopped (negsuc 74999 +ℤ pos (n * m))) (turns_slope 100 true waits gate s ∙ slope)

  pub owing : (waits gate : Bool) → ((turns 100 true waits gate s).credit ≡ negsuc 74999) × ((turns 299 false true true (turns 100 true waits gate s)).credit ≡ negsuc 249) × ((turns 300 false true true (turns 100 true waits gate s)).credit ≡ pos 0)
  owing waits gate = (sent waits gate, then 299 waits gate, then 300 waits gate)

-- class 6 and class 5 among those held back
six_held : (x y : Bool) → x ≡ true → In 6 (cond x 64 0 + cond y 32 0)
six_held true true e = refl
six_held true false e = refl
six_held false y e = absurd (both_ways false refl e)

six_free : (x y : Bool) → x ≡ false → In 6 (cond x 64 0 + cond y 32 0) → ⊥
six_free true y e h = both_ways true e refl
six_free false true e h = omega arith
six_free false false e h = omega arith

five_held : (x y : Bool) → y ≡ true → In 5 (cond x 64 0 + cond y 32 0)
five_held true true e = refl
five_held false true e = refl
five_held x false e = absurd (both_ways false refl e)

five_free : (x y : Bool) → y ≡ false → In 5 (cond x 64 0 + cond y 32 0) → ⊥
five_free x true e h = both_ways true e refl
five_free true false e h = omega arith
five_free false false e h = omega arith

-- one of the shaped classes: each turns by itself, and is held back exactly while it is in debt
module _ (k : ℕ) (class : Shaper → Shaped)
    (own : (s : Shaper) (wire : Option ℕ) (waiting gates : ℕ) → class (passed_on s wire waiting gates) ≡ turned (class s) (sends wire k) (has waiting k) (has gates k))
    (held : (s : Shaper) → lt_z (class s).credit (pos 0) ≡ true → In k (held_back s))
    (free : (s : Shaper) → lt_z (class s).credit (pos 0) ≡ false → In k (held_back s) → ⊥) where
  own_turns : (n : ℕ) (wire : Option ℕ) (waiting gates : ℕ) (s : Shaper) → class (passes n wire waiting gates s) ≡ turns n (sends wire k) (has waiting k) (has gates k) (class s)
  unfolding turns passes
  own_turns zero wire waiting gates s = refl
  own_turns (suc n) wire waiting gates s = own (passes n wire waiting gates s) wire waiting gates ∙ ap (λ t. turned t (sends wire k) (has waiting k) (has gates k)) (own_turns n wire waiting gates s)

  own_sends : (n : ℕ) (waiting gates : ℕ) (s : Shaper) → class (passes n (Some k) waiting gates s) ≡ turns n true (has waiting k) (has gates k) (class s)
  own_sends n waiting gates s = own_turns n (Some k) waiting gates s ∙ ap (λ b. turns n b (has waiting k) (has gates k) (class s)) (eq-eqb k k refl)

  -- n more ticks of waiting after 100 on the wire
  own_waits : (n : ℕ) (waiting gates : ℕ) (s : Shaper) → In k waiting → In k gates →
      class (passes n None waiting gates (passes 100 (Some k) waiting gates s)) ≡ turns n false true true (turns 100 true (has waiting k) (has gates k) (class s))
  own_waits n waiting gates s w g =
      own_turns n None waiting gates (passes 100 (Some k) waiting gates s)
      ∙ ap (turns n false (has waiting k) (has gates k)) (own_sends 100 waiting gates s)
      ∙ ap (λ b. turns n false b (has gates k) (turns 100 true (has waiting k) (has gates k) (class s))) (eq-eqb ((waiting / 2 ^ k) % 2) 1 w)
      ∙ ap (λ b. turns n false true b (turns 100 true (has waiting k) (has gates k) (class s))) (eq-eqb ((gates / 2 ^ k) % 2) 1 g)

  own_quarter : QuarterOf k class
  own_quarter s waiting gates slope credit w g =
      let o = owing (class s) slope credit (has waiting k) (has gates k) in
      let sent = passes 100 (Some k) waiting gates s in (
        ap (λ t. t.credit) (own_sends 100 waiting gates s) ∙ o.0,
        held (passes 299 None waiting gates sent) (ap (λ t. lt_z t.credit (pos 0)) (own_waits 299 waiting gates s w g) ∙ ap (λ z. lt_z z (pos 0)) o.1),
        free (passes 300 None waiting gates sent) (ap (λ t. lt_z t.credit (pos 0)) (own_waits 300 waiting gates s w g) ∙ ap (λ z. lt_z z (pos 0)) o.2),
      )

pub quarter : Quarter
quarter = own_quarter 6 (λ s. s.six) (λ s wire waiting gates. refl) (λ s. six_held (lt_z s.six.credit (pos 0)) (lt_z s.five.credit (pos 0))) (λ s. six_free (lt_z s.six.credit (pos 0)) (lt_z s.five.credit (pos 0)))

pub quarter_of_five : QuarterOfFive
quarter_of_five = own_quarter 5 (λ s. s.five) (λ s wire waiting gates. refl) (λ s. five_held (lt_z s.six.credit (pos 0)) (lt_z s.five.credit (pos 0))) (λ s. five_free (lt_z s.six.credit (pos 0)) (lt_z s.five.credit (pos 0)))
