use Rattle.std.proofs.Common.{◌≡◌, ◌++◌, map, get_or, take, drop, None}
use Rattle.schedule.specs.Checks.{checked_plan}
use Rattle.network.specs.Tables.{over, row_landed, row_departed}
use Rattle.network.specs.Clocked.{started_in}
use Rattle.network.proofs.traffic.ticks.step_rows.Given as goal

abbrev pub invariant-loop-f : goal.invariant-loop-f
invariant-loop-f g l = l.rows ≡ over (λ f r. row_departed (checked_plan l.plan) l.t (λ p. get_or (map started_in l.ports) p None) f (row_landed (checked_plan l.plan) l.t f r)) 0 (take l.f l.initial.rows) ++ drop l.f l.initial.rows
