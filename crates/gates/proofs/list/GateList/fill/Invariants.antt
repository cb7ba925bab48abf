use Rattle.std.proofs.Common.{◌-◌, ◌≤◌, vec_items, vec_capacity}
use Rattle.schedule.specs.Checks.{checked_plan}
use Rattle.gates.proofs.Running.{Running}
use Rattle.gates.proofs.list.GateList.fill.Given as goal

abbrev pub invariant-loop-stretch : goal.invariant-loop-stretch
invariant-loop-stretch l = Running (checked_plan l.plan) l.port (vec_items l.entries) l.begun l.stretch × (49 ≤ vec_capacity l.entries)

abbrev pub decreases-loop-stretch : goal.decreases-loop-stretch
decreases-loop-stretch l = l.cycle - l.stretch.until
