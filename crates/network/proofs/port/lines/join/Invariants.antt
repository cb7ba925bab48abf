use Rattle.std.proofs.Common.{◌≡◌, ◌++◌, take}
use Rattle.schedule.specs.Checks.{checked_plan}
use Rattle.egress.specs.Lines.{flows}
use Rattle.network.specs.Flows.{joins}
use Rattle.network.specs.Ports.{listed}
use Rattle.network.specs.Tables.{flight_in}
use Rattle.network.proofs.port.lines.join.Given as goal

abbrev pub invariant-loop-f : goal.invariant-loop-f
invariant-loop-f l = let a = l.arrivals in flows l.line ≡ take 16 (flows l.initial.line ++ listed l.f (λ f. joins (checked_plan a.plan.now) a.t l.p f (flight_in a.rows.now f)))
