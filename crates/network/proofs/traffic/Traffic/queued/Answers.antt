use Rattle.std.proofs.Common.{arith, ◌≡◌, List, map, get_or, sym, ap, ◌∙◌}
use Rattle.std.proofs.lemmas.Grind.{common_steps}
use Rattle.network.specs.declared.clocked.ClockedPort.{ClockedPort}
use Rattle.network.specs.Ports.{line_length}
use Rattle.network.specs.Tables.{at_or}
use Rattle.network.specs.Clocked.{port_in}
use Rattle.network.specs.Traffic.{tables_of}
use Rattle.network.proofs.Places.{at_or_map}
use Rattle.network.proofs.traffic.Traffic.queued.Goals as goal

pub returns : goal.returns
unfolding tables_of
returns g c =
    let k = c.args.class in let xs : List (ClockedPort g.row.S.Denot g.row.K.Denot) = c.deref.result.now in
    let e : c.map_or.result ≡ get_or (map (λ (x : ClockedPort g.row.S.Denot g.row.K.Denot). line_length k (port_in x)) xs) c.args.p 0 = grind (arith, common_steps) in
    e ∙ sym (at_or_map port_in (line_length k) 0 xs c.args.p) ∙ ap (λ (l : List (ClockedPort g.row.S.Denot g.row.K.Denot)). at_or (line_length k) 0 (map port_in l) c.args.p) c.deref.ensures.value
