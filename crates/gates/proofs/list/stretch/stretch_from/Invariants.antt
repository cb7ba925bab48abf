use Rattle.std.proofs.Common.{◌≡◌}
use Rattle.schedule.specs.Checks.{checked_plan}
use Rattle.gates.specs.Scan.{stretch_hops, stretch_flows, open_stretch}
use Rattle.gates.proofs.list.stretch.stretch_from.Given as goal

abbrev pub invariant-loop-number : goal.invariant-loop-number
invariant-loop-number l = l.stretch ≡ stretch_flows (checked_plan l.plan) l.port l.tick (open_stretch (checked_plan l.plan)) l.number

abbrev pub invariant-loop-window : goal.invariant-loop-window
invariant-loop-window l = l.stretch ≡ stretch_hops (checked_plan l.plan) l.port l.tick l.number l.initial.stretch l.window-index
