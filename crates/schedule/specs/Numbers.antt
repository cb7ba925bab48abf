-- The number of each refusal and fault, and the values that are named with it.
use Rattle.std.specs.Prelude.{ℕ, Some, None, Option}
use Rattle.schedule.specs.declared.refusal.OpenRefusal.{OpenRefusal}
use Rattle.schedule.specs.declared.refusal.OpenRefusal.TheVariants.{TimingBeyondLimits, PortsBeyondLimits, OutOfMemory}
use Rattle.schedule.specs.declared.refusal.FlowRefusal.{FlowRefusal}
use Rattle.schedule.specs.declared.refusal.FlowRefusal.TheVariants.{DraftFull, FlowBeyondLimits, BadRoute, NoOffsets, BadOffsets}
use Rattle.schedule.specs.declared.refusal.CertificateRefusal.{CertificateRefusal}
use Rattle.schedule.specs.declared.refusal.CertificateRefusal.TheVariants.{AbsentFlow}
use Rattle.schedule.specs.declared.refusal.BrokenRule.{BrokenRule}
use Rattle.schedule.specs.declared.refusal.BrokenRule.TheVariants.{OffsetTooEarly, EndTooLate, ReachTooLate, DeliveryPastCycle, DeadlineMissed, WindowsTooClose}
use Rattle.schedule.specs.declared.refusal.Fault.{Fault}

-- the number with which opening is refused; want of memory has none
abbrev pub open_number : OpenRefusal → Option ℕ
open_number TimingBeyondLimits = Some 6
open_number PortsBeyondLimits = Some 7
open_number OutOfMemory = None

-- the number with which a flow is refused
abbrev pub flow_number : FlowRefusal → ℕ
flow_number DraftFull = 1
flow_number FlowBeyondLimits = 2
flow_number BadRoute = 3
flow_number NoOffsets = 4
flow_number BadOffsets = 5

-- the number with which a certificate is refused
abbrev pub certificate_number : CertificateRefusal → ℕ
certificate_number AbsentFlow = 22

-- the number of a rule that is broken
abbrev pub rule_number : BrokenRule → ℕ
rule_number OffsetTooEarly = 11
rule_number EndTooLate = 12
rule_number ReachTooLate = 13
rule_number DeliveryPastCycle = 14
rule_number DeadlineMissed = 15
rule_number WindowsTooClose = 16

-- the number of a fault: that of its rule
abbrev pub fault_number : Fault → ℕ
fault_number x = rule_number x.rule

-- the flow and the hop at which the rule is broken
abbrev pub fault_place : Fault → ℕ × ℕ
fault_place x = (x.flow, x.hop)
