use Rattle.network.proofs.Supposed.{lawful_of}
use Rattle.network.proofs.met.selection_is_lawful.Goals as goal

pub returns : goal.returns
returns g c =
    let s = g.S.Selection in
    let m = g.met.S.Selection in
    lawful_of s.MASK s.held s.pick s.passed m.spared m.within m.picks
