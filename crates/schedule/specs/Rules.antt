-- The six rules of a good plan, and the fault that a draft is refused with.
use Rattle.std.specs.Prelude.{◌≡◌, ℕ, suc, ◌+◌, ◌*◌, ◌<◌, ◌≤◌}
use Rattle.schedule.specs.Plan.{Plan, flow_count, hop_count, release_of, deadline_of, port_at, offset_at, end_at, late_at, early_at}
use Rattle.schedule.specs.Numbers.{fault_place}
use Rattle.schedule.specs.declared.refusal.BrokenRule.{BrokenRule}
use Rattle.schedule.specs.declared.refusal.BrokenRule.TheVariants.{OffsetTooEarly, EndTooLate, ReachTooLate, DeliveryPastCycle, DeadlineMissed, WindowsTooClose}
use Rattle.schedule.specs.declared.refusal.Fault.{Fault}

-- 1: there is room in the cycle for the guard band before the window
abbrev pub Guarded : Plan → ℕ → ℕ → Type 0
Guarded P f h = 2 * P.error ≤ offset_at P f h

-- 2: the window ends a guard band before the cycle does
abbrev pub EndsInCycle : Plan → ℕ → ℕ → Type 0
EndsInCycle P f h = end_at P f h + 2 * P.error ≤ P.cycle

-- 3: the frame waits before its window can begin by any clock
abbrev pub ReachedInTime : Plan → ℕ → ℕ → Type 0
ReachedInTime P f h = late_at P f h + P.error ≤ offset_at P f h

-- 4: after the last hop the frame is delivered within its cycle
abbrev pub DeliveredInCycle : Plan → ℕ → ℕ → Type 0
DeliveredInCycle P f h = suc h ≡ hop_count P f → late_at P f (suc h) < P.cycle

-- 5: and within its deadline
abbrev pub MeetsDeadline : Plan → ℕ → ℕ → Type 0
MeetsDeadline P f h = suc h ≡ hop_count P f → late_at P f (suc h) ≤ deadline_of P f + release_of P f

-- the frame of hop h of flow f cannot join its line before the window of hop k of flow g has ended by any clock
abbrev pub After : Plan → ℕ → ℕ → ℕ → ℕ → Type 0
After P f h g k = end_at P g k + 2 * P.error ≤ early_at P f h

-- two windows of one port: their offsets differ, and the later is reached after the earlier has ended
pub record Apart (P : Plan) (f h g k : ℕ) : Type 0 where
  pub differ : offset_at P f h ≡ offset_at P g k → ⊥
  pub above : offset_at P g k < offset_at P f h → After P f h g k
  pub below : offset_at P f h < offset_at P g k → After P g k f h

-- the window of hop h of flow f stands apart from those of flow g at its port
abbrev pub ApartFrom : Plan → ℕ → ℕ → ℕ → Type 0
ApartFrom P f h g = (k : ℕ) → k < hop_count P g → port_at P g k ≡ port_at P f h → Apart P f h g k

-- 6: it stands apart from those of all lower flows
abbrev pub StandsApart : Plan → ℕ → ℕ → Type 0
StandsApart P f h = (g : ℕ) → g < f → ApartFrom P f h g

-- hop h of flow f keeps the six rules
pub record KeepsRules (P : Plan) (f h : ℕ) : Type 0 where
  pub guarded : Guarded P f h
  pub ends : EndsInCycle P f h
  pub reached : ReachedInTime P f h
  pub delivered : DeliveredInCycle P f h
  pub meets : MeetsDeadline P f h
  pub apart : StandsApart P f h

-- every hop of flow f keeps them
abbrev pub FlowKeeps : Plan → ℕ → Type 0
FlowKeeps P f = (h : ℕ) → h < hop_count P f → KeepsRules P f h

-- a good plan: every flow keeps them
abbrev pub Good : Plan → Type 0
Good P = (f : ℕ) → f < flow_count P → FlowKeeps P f

-- a rule is broken at hop h of flow f, and the rules before it are kept there
abbrev pub Breaks : Plan → BrokenRule → ℕ → ℕ → Type 0
Breaks P OffsetTooEarly f h = Guarded P f h → ⊥
Breaks P EndTooLate f h = Guarded P f h × (EndsInCycle P f h → ⊥)
Breaks P ReachTooLate f h = Guarded P f h × EndsInCycle P f h × (ReachedInTime P f h → ⊥)
Breaks P DeliveryPastCycle f h = Guarded P f h × EndsInCycle P f h × ReachedInTime P f h × (DeliveredInCycle P f h → ⊥)
Breaks P DeadlineMissed f h = Guarded P f h × EndsInCycle P f h × ReachedInTime P f h × DeliveredInCycle P f h × (MeetsDeadline P f h → ⊥)
Breaks P WindowsTooClose f h = Guarded P f h × EndsInCycle P f h × ReachedInTime P f h × DeliveredInCycle P f h × MeetsDeadline P f h × (StandsApart P f h → ⊥)

-- likewise of the rule and the hop of a fault
abbrev pub BrokenThere : Plan → Fault → Type 0
BrokenThere P x = Breaks P x.rule (fault_place x).0 (fault_place x).1

-- the first fault of flow f: hops by number, at a hop the rules in order
pub record FirstInFlow (P : Plan) (f : ℕ) (x : Fault) : Type 0 where
  pub flow_is : (fault_place x).0 ≡ f
  pub hop_in : (fault_place x).1 < hop_count P f
  pub broken : BrokenThere P x
  pub before : (h : ℕ) → h < (fault_place x).1 → KeepsRules P f h

-- the first fault of a plan: the first of its flow, and every lower flow keeps the rules
pub record FirstFault (P : Plan) (x : Fault) : Type 0 where
  pub flow_in : (fault_place x).0 < flow_count P
  pub first : FirstInFlow P (fault_place x).0 x
  pub before : (f : ℕ) → f < (fault_place x).0 → FlowKeeps P f
