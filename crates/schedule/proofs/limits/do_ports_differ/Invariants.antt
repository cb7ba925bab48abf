use Rattle.std.proofs.Common.{◌≡◌, drop}
use Rattle.schedule.specs.Limits.{ports_differ}
use Rattle.schedule.proofs.limits.do_ports_differ.Given as goal

-- what is left decides
abbrev pub invariant-loop-hop : goal.invariant-loop-hop
invariant-loop-hop l = ports_differ l.count (drop l.hop l.route) ≡ ports_differ l.count l.route
