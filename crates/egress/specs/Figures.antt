-- What a run of passes alike comes to, and the figures of a shaper with a quarter of the link.
use Rattle.std.specs.Prelude.{◌≡◌, ℕ, zero, suc, ◌-◌, ◌*◌, Bool, true, false, pos, negsuc, ◌+ℤ◌, ◌-ℤ◌, Some, None, Option}
use Rattle.egress.specs.declared.shaped.Shaped.{Shaped}
use Rattle.egress.specs.declared.shaper.Shaper.{Shaper}
use Rattle.egress.specs.Mask.{In}
use Rattle.egress.specs.Credit.{stopped, turned, held_back, passed_on}

-- a shaped class after n passes alike
unfoldable pub turns : ℕ → Bool → Bool → Bool → Shaped → Shaped
turns zero wire waits gate s = s
turns (suc n) wire waits gate s = turned (turns n wire waits gate s) wire waits gate

-- a shaper after n passes alike
unfoldable pub passes : ℕ → Option ℕ → ℕ → ℕ → Shaper → Shaper
passes zero wire waiting gates s = s
passes (suc n) wire waiting gates s = passed_on (passes n wire waiting gates s) wire waiting gates

-- n ticks of waiting before an open gate bring n slopes, stopped at the limit
abbrev pub Gains : Type 0
Gains = (s : Shaped) (n : ℕ) → (turns n false true true s).credit ≡ stopped (s.credit +ℤ pos (n * s.slope))

-- n ticks on the wire cost n times what the class lacks of the whole link, stopped at the limit
abbrev pub Spends : Type 0
Spends = (s : Shaped) (n : ℕ) (waits gate : Bool) → (turns n true waits gate s).credit ≡ stopped (s.credit -ℤ pos (n * (1000 - s.slope)))

-- a frame of 100 ticks sent by class k of a shaper from credit 0 with slope 250, another waiting and its gate open:
-- the credit is then −75,000, and the class is held back for 299 more ticks and not after 300
abbrev pub QuarterOf : ℕ → (Shaper → Shaped) → Type 0
QuarterOf k class = (s : Shaper) (waiting gates : ℕ) → (class s).slope ≡ 250 → (class s).credit ≡ pos 0 → In k waiting → In k gates →
    ((class (passes 100 (Some k) waiting gates s)).credit ≡ negsuc 74999)
    × In k (held_back (passes 299 None waiting gates (passes 100 (Some k) waiting gates s)))
    × (In k (held_back (passes 300 None waiting gates (passes 100 (Some k) waiting gates s))) → ⊥)

-- so it is of class 6
abbrev pub Quarter : Type 0
Quarter = QuarterOf 6 (λ s. s.six)

-- and of class 5
abbrev pub QuarterOfFive : Type 0
QuarterOfFive = QuarterOf 5 (λ s. s.five)

-- with slope 250 from credit 0 the upper limit is reached after 8,000 ticks of waiting and the lower after 2,667 on the wire, and there the credit stays
abbrev pub Stops : Type 0
Stops = (s : Shaped) → s.slope ≡ 250 → s.credit ≡ pos 0 →
    ((turns 7999 false true true s).credit ≡ pos 1999750)
    × ((turns 8000 false true true s).credit ≡ pos 2000000)
    × ((turns 8001 false true true s).credit ≡ pos 2000000)
    × ((turns 2666 true true true s).credit ≡ negsuc 1999499)
    × ((turns 2667 true true true s).credit ≡ negsuc 1999999)
    × ((turns 2668 true true true s).credit ≡ negsuc 1999999)
