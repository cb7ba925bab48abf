use Rattle.std.proofs.Common.{arith, ◌≡◌, List, map, get_or, None, sym, ap, ◌∙◌}
use Rattle.std.proofs.lemmas.Grind.{common_steps}
use Rattle.network.specs.declared.clocked.ClockedPort.{ClockedPort}
use Rattle.network.specs.Ports.{carried}
use Rattle.network.specs.Tables.{at_or}
use Rattle.network.specs.Clocked.{port_in}
use Rattle.network.specs.Traffic.{tables_of}
use Rattle.network.proofs.Places.{at_or_map}
use Rattle.network.proofs.traffic.Traffic.wire.Goals as goal

pub returns : goal.returns
unfolding tables_of
returns g c =
    let t = c.args.self.now.now in let xs : List (ClockedPort g.row.S.Denot g.row.K.Denot) = c.deref.result.now in
    let e : c.and_then.result ≡ get_or (map (λ (x : ClockedPort g.row.S.Denot g.row.K.Denot). carried t (port_in x)) xs) c.args.p None = grind (arith, common_steps) in
    e ∙ sym (at_or_map port_in (carried t) None xs c.args.p) ∙ ap (λ (l : List (ClockedPort g.row.S.Denot g.row.K.Denot)). at_or (carried t) None (map port_in l) c.args.p) c.deref.ensures.value
