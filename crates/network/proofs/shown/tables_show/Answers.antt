use Rattle.network.proofs.Bridge.{tables_show}
use Rattle.network.proofs.shown.tables_show.Goals as goal

-- src/shown.rt:13:1
pub returns : goal.returns
returns g c = tables_show
