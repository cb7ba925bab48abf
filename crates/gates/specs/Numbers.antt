-- The number of each refusal.
use Rattle.std.specs.Prelude.{ℕ, Some, None, Option}
use Rattle.gates.specs.declared.refusal.GateRefusal.{GateRefusal}
use Rattle.gates.specs.declared.refusal.GateRefusal.TheVariants.{AbsentPort, OutOfMemory}

-- the number with which a gate list is refused; want of memory has none
abbrev pub gate_number : GateRefusal → Option ℕ
gate_number AbsentPort = Some 21
gate_number OutOfMemory = None
