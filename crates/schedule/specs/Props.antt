-- That a plan is good is a proposition: there is one proof of it at most, so that it may stand in a type.
use mathlib.Core.HLevel.{Π_prop, →_prop, ¬_prop}
use Rattle.std.proofs.Common.{ℕ}
use native.Mathlib.Bridge.{le_prop}
use Rattle.schedule.specs.Plan.{Plan}
use Rattle.schedule.specs.Rules.{Apart, KeepsRules, Good}

-- Two windows keep apart in one way at most.
apart_prop : (P : Plan) (f h g k : ℕ) → IsProp (Apart P f h g k)
apart_prop P f h g k x y i = record { differ = ¬_prop x.differ y.differ i; above = →_prop le_prop x.above y.above i; below = →_prop le_prop x.below y.below i }

-- A hop keeps its rules in one way at most.
keeps_prop : (P : Plan) (f h : ℕ) → IsProp (KeepsRules P f h)
keeps_prop P f h x y i = record {
  guarded = le_prop x.guarded y.guarded i;
  ends = le_prop x.ends y.ends i;
  reached = le_prop x.reached y.reached i;
  delivered = →_prop le_prop x.delivered y.delivered i;
  meets = →_prop le_prop x.meets y.meets i;
  apart = Π_prop (λ g. →_prop (Π_prop (λ k. →_prop (→_prop (apart_prop P f h g k))))) x.apart y.apart i;
}

-- A plan is good in one way at most.
pub good_prop : (P : Plan) → IsProp (Good P)
good_prop P = Π_prop (λ f. →_prop (Π_prop (λ h. →_prop (keeps_prop P f h))))
