use Rattle.egress.proofs.Orders.{line_laws}
use Rattle.egress.proofs.shown.line_laws_stand.Goals as goal

pub returns : goal.returns
returns g c = line_laws
