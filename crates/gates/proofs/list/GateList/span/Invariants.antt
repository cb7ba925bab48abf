use Rattle.std.proofs.Common.{◌≡◌, drop, vec_items}
use Rattle.gates.specs.Lookup.{entry_span}
use Rattle.gates.proofs.list.GateList.span.Given as goal

abbrev pub invariant-loop-entry : goal.invariant-loop-entry
invariant-loop-entry l = entry_span (drop l.entry-index l.entry-items) l.left ≡ entry_span (vec_items l.self.entries) l.tick
