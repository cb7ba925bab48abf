use Rattle.std.proofs.Common.{ap, ◌∙◌}
use Rattle.egress.proofs.Masks.{seven_goes}
use Rattle.egress.proofs.shown.asked.Goals as goal

pub returns : goal.returns
returns g c =
    let s = c.args.selection.now in
    let m = g.met.S.Selection in
    record {
      reply = c.ask.ensures;
      seven = λ e. c.ask.ensures ∙ ap (g.S.Selection.pick s) e ∙ seven_goes g.S.Selection.MASK (g.S.Selection.held s) (g.S.Selection.pick s) m.spared (m.within s) (m.picks s);
    }
