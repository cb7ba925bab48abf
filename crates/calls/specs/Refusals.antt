-- The refusals of all calls as one kind, and their numbers.
use Rattle.std.specs.Prelude.{ℕ, Some, None, Option}
use Rattle.schedule.specs.declared.refusal.OpenRefusal.{OpenRefusal}
use Rattle.schedule.specs.Numbers.{open_number, flow_number, certificate_number, fault_number}
use Rattle.gates.specs.declared.refusal.GateRefusal.{GateRefusal}
use Rattle.gates.specs.Numbers.{gate_number}
use Rattle.calls.specs.declared.refusal.Refusal.{Refusal}
use Rattle.calls.specs.declared.refusal.Refusal.TheVariants.{Open, Flow, Certificate, Gates, Faulty, OutOfOrder, OutOfMemory}

-- the refusal of opening a draft
abbrev pub open_refusal : OpenRefusal → Refusal
open_refusal OpenRefusal.TimingBeyondLimits = Open OpenRefusal.TimingBeyondLimits
open_refusal OpenRefusal.PortsBeyondLimits = Open OpenRefusal.PortsBeyondLimits
open_refusal OpenRefusal.OutOfMemory = OutOfMemory

-- the refusal of a gate list
abbrev pub gate_refusal : GateRefusal → Refusal
gate_refusal GateRefusal.AbsentPort = Gates GateRefusal.AbsentPort
gate_refusal GateRefusal.OutOfMemory = OutOfMemory

-- the number of a refusal; a call out of order and want of memory have none
abbrev pub refusal_number : Refusal → Option ℕ
refusal_number (Open x) = open_number x
refusal_number (Flow x) = Some (flow_number x)
refusal_number (Certificate x) = Some (certificate_number x)
refusal_number (Gates x) = gate_number x
refusal_number (Faulty x) = Some (fault_number x)
refusal_number (OutOfOrder m) = None
refusal_number OutOfMemory = None
