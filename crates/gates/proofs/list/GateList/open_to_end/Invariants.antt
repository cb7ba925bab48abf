use Rattle.std.proofs.Common.{◌≡◌, ◌+◌, drop, vec_items}
use Rattle.gates.specs.Lookup.{entry_open}
use Rattle.gates.proofs.list.GateList.open_to_end.Given as goal

abbrev pub invariant-loop-entry : goal.invariant-loop-entry
invariant-loop-entry l = l.open + entry_open (drop l.entry-index l.entry-items) l.left l.class ≡ entry_open (vec_items l.self.entries) l.tick l.class
