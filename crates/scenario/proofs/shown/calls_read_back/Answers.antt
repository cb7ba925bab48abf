use Rattle.scenario.proofs.Backs.{reads_back}
use Rattle.scenario.proofs.shown.calls_read_back.Goals as goal

pub returns : goal.returns
returns c = reads_back
