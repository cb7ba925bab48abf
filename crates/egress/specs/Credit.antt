-- The credit of a shaped class, in thousandths of a tick.
use Rattle.std.specs.Prelude.{◌≡◌, ℕ, ◌+◌, Bool, true, false, cond, not, T, ℤ, pos, negsuc, ◌+ℤ◌, ◌≤ℤ◌, Some, None, Option, ◌==◌, int_lt, refl}
use Rattle.std.proofs.Common.{sym, subst}
use Rattle.std.specs.Int.Signed.{le_z_yes, lt_z_no}
use Rattle.egress.specs.declared.shaped.Shaped.{Shaped}
use Rattle.egress.specs.declared.shaper.Shaper.{Shaper}
use Rattle.egress.specs.Mask.{has, sends}

-- a credit stops at 2,000,000 and at −2,000,000
abbrev pub stopped : ℤ → ℤ
stopped z = cond (int_lt (pos 2000000) z) (pos 2000000) (cond (int_lt z (negsuc 1999999)) (negsuc 1999999) z)

-- the credit after a pass, by the first case that fits: the class is on the wire; none waits; its gate is closed; or else
abbrev pub credited : ℤ → ℕ → Bool → Bool → Bool → ℤ
credited z slope wire waits gate = cond wire (stopped (z +ℤ pos slope +ℤ negsuc 999)) (cond waits (cond gate (stopped (z +ℤ pos slope)) z) (pos 0))

-- the limits of a credit
abbrev pub Limited : ℤ → Type 0
Limited z = (negsuc 1999999 ≤ℤ z) × (z ≤ℤ pos 2000000)

-- a stopped credit keeps the limits, by the two tests
stopped_by : (b d : Bool) (z : ℤ) → int_lt (pos 2000000) z ≡ b → int_lt z (negsuc 1999999) ≡ d → Limited (cond b (pos 2000000) (cond d (negsuc 1999999) z))
stopped_by true d z e f = (le_z_yes tt, le_z_yes tt)
stopped_by false true z e f = (le_z_yes tt, le_z_yes tt)
stopped_by false false z e f = (lt_z_no (subst (λ (b : Bool). T (not b)) (sym f) tt), lt_z_no (subst (λ (b : Bool). T (not b)) (sym e) tt))

-- a stopped credit keeps the limits
pub stopped_limited : (z : ℤ) → Limited (stopped z)
stopped_limited z = stopped_by (int_lt (pos 2000000) z) (int_lt z (negsuc 1999999)) z refl refl

-- a pass keeps the limits
pub credited_limited : (z : ℤ) (slope : ℕ) (wire waits gate : Bool) → Limited z → Limited (credited z slope wire waits gate)
credited_limited z slope true waits gate h = stopped_limited (z +ℤ pos slope +ℤ negsuc 999)
credited_limited z slope false true true h = stopped_limited (z +ℤ pos slope)
credited_limited z slope false true false h = h
credited_limited z slope false false gate h = (le_z_yes tt, le_z_yes tt)

-- a shaped class after a pass: its slope stays, its credit moves
abbrev pub turned : Shaped → Bool → Bool → Bool → Shaped
turned s wire waits gate = record {
  slope = s.slope;
  credit = credited s.credit s.slope wire waits gate;
  share = s.share;
  limited = credited_limited s.credit s.slope wire waits gate s.limited;
}

-- the credit of a class of a shaper, if it is a shaped one
abbrev pub credit_of : Shaper → ℕ → Option ℤ
credit_of s class = cond (class == 6) (Some s.six.credit) (cond (class == 5) (Some s.five.credit) None)

-- the classes that a shaper holds back: 6 and 5, each while its credit is below 0
abbrev pub held_back : Shaper → ℕ
held_back s = cond (int_lt s.six.credit (pos 0)) 64 0 + cond (int_lt s.five.credit (pos 0)) 32 0

-- a shaper after a pass, class by class
abbrev pub passed_on : Shaper → Option ℕ → ℕ → ℕ → Shaper
passed_on s wire waiting gates = record {
  six = turned s.six (sends wire 6) (has waiting 6) (has gates 6);
  five = turned s.five (sends wire 5) (has waiting 5) (has gates 5);
}
