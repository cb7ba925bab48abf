use Rattle.gates.proofs.Unique.{one_gate_list}
use Rattle.gates.proofs.shown.gate_list_is_one.Goals as goal

pub returns : goal.returns
returns c = one_gate_list
