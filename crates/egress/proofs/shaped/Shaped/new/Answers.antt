use Rattle.std.proofs.Common.{rules}
use Rattle.egress.proofs.shaped.Shaped.new.Goals as goal

pub invariant_of-result-clause-limited : goal.invariant_of-result-clause-limited
invariant_of-result-clause-limited c = search rules
