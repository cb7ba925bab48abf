-- Settings of selections and clocks, and which of them are refused.
use Rattle.std.specs.Prelude.{◌≡◌, ℕ, Bool, cond, ◌&&◌, ℤ, pos, negsuc, Some, None, Ok, Err, Option, Result, int_lt, nat_lt}
use Rattle.egress.specs.declared.setting.Refused.{Refused}
use Rattle.egress.specs.declared.setting.Refused.TheVariants.{Slope, Shift, Margin, Period}
use Rattle.egress.specs.declared.shaper.Shaper.{Shaper}
use Rattle.egress.specs.declared.shifted.Shifted.{Shifted}
use Rattle.egress.specs.declared.stepped.Stepped.{Stepped}

-- the number of a refusal: every setting beyond its limits is refused as 34
abbrev pub refusal_number : Refused → ℕ
refusal_number (Slope class value) = 34
refusal_number (Shift value) = 34
refusal_number (Margin value) = 34
refusal_number (Period value) = 34

-- whether a slope is 1 to 999 thousandths of the link
abbrev pub slope_fits : ℕ → Bool
slope_fits slope = nat_lt 0 slope && nat_lt slope 1000

-- the first slope of a shaper that is refused: class 6 comes first
abbrev pub slopes_fault : ℕ → ℕ → Option Refused
slopes_fault six five = cond (slope_fits six) (cond (slope_fits five) None (Some (Slope 5 five))) (Some (Slope 6 six))

-- the reply to making a shaper: one with these slopes and both credits at 0, or the setting at fault
abbrev pub MadeShaper : ℕ → ℕ → Result Shaper Refused → Type 0
MadeShaper six five (Ok s) = (slopes_fault six five ≡ None) × (s.six.slope ≡ six) × (s.six.credit ≡ pos 0) × (s.five.slope ≡ five) × (s.five.credit ≡ pos 0)
MadeShaper six five (Err e) = (slopes_fault six five ≡ Some e) × (refusal_number e ≡ 34)

-- the shift that is refused: it is −125 to 125 ticks
abbrev pub shift_fault : ℤ → Option Refused
shift_fault by = cond (int_lt by (negsuc 124)) (Some (Shift by)) (cond (int_lt (pos 125) by) (Some (Shift by)) None)

-- the reply to making a shifted clock
abbrev pub MadeShifted : ℤ → Result Shifted Refused → Type 0
MadeShifted by (Ok c) = (shift_fault by ≡ None) × (c.by ≡ by)
MadeShifted by (Err e) = (shift_fault by ≡ Some e) × (refusal_number e ≡ 34)

-- the first setting of a stepped clock that is refused: the margin is 0 to 125 ticks, the period 1 to 65,535
abbrev pub steps_fault : ℕ → ℕ → Option Refused
steps_fault margin period = cond (nat_lt 125 margin) (Some (Margin margin)) (cond (nat_lt 0 period && nat_lt period 65536) None (Some (Period period)))

-- the reply to making a stepped clock
abbrev pub MadeStepped : ℕ → ℕ → Result Stepped Refused → Type 0
MadeStepped margin period (Ok c) = (steps_fault margin period ≡ None) × (c.margin ≡ margin) × (c.period ≡ period)
MadeStepped margin period (Err e) = (steps_fault margin period ≡ Some e) × (refusal_number e ≡ 34)
