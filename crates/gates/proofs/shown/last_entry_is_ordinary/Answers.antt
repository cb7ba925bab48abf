use Rattle.gates.proofs.Ending.{ends_ordinary}
use Rattle.gates.proofs.shown.last_entry_is_ordinary.Goals as goal

pub returns : goal.returns
returns c = ends_ordinary
