use Rattle.network.proofs.Theorem.{guarantee}
use Rattle.network.proofs.shown.guarantee_stands.Goals as goal

pub returns : goal.returns
returns g c = guarantee
