use Rattle.network.specs.Lawful.{meaning}
use Rattle.std.proofs.Common.{◌≡◌, ◌++◌, map, take, drop}
use Rattle.schedule.specs.Checks.{checked_plan}
use Rattle.network.specs.Tables.{over}
use Rattle.network.specs.Clocked.{whole, run_through}
use Rattle.network.proofs.clocked.acts.run_ports.Given as goal

abbrev pub invariant-loop-p : goal.invariant-loop-p
invariant-loop-p g l = let a = l.arrivals in map whole l.ports ≡ over (run_through g.K.Clock.reading (meaning g.S.Selection.held g.S.Selection.pick g.S.Selection.passed) (checked_plan a.plan.now) a.t a.rows.now) 0 (take l.p (map whole l.initial.ports)) ++ drop l.p (map whole l.initial.ports)
