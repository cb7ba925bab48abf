use Rattle.network.specs.Lawful.{meaning}
use Rattle.std.proofs.Common.{map, arith}
use Rattle.std.proofs.lemmas.List.{length-map}
use Rattle.schedule.specs.Checks.{checked_plan}
use Rattle.network.specs.Clocked.{whole, run_through}
use Rattle.network.proofs.Loops.{seen_turn}
use Rattle.network.proofs.clocked.acts.run_ports.Goals as goal

pub loop-p-preserved : goal.loop-p-preserved
loop-p-preserved g c =
    let a = c.args.arrivals.now in
    seen_turn (run_through g.K.Clock.reading (meaning g.S.Selection.held g.S.Selection.pick g.S.Selection.passed) (checked_plan a.plan.now) a.t a.rows.now) whole (map whole c.args.ports.now) c.loop-p.ports c.loop-p.p c.index-ports-p.result _
    (omega (arith, length-map c.args.ports.now whole)) (omega arith) c.loop-p.invariant c.run.ensures
