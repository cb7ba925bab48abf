use Rattle.std.proofs.Common.{ℕ, ◌<◌}
use Rattle.schedule.specs.Rules.{KeepsRules}
use Rattle.schedule.specs.Drafts.{plan_of}
use Rattle.schedule.proofs.draft.Draft.broken_hop.Given as goal

abbrev pub invariant-loop-number : goal.invariant-loop-number
invariant-loop-number l = (h : ℕ) → h < l.number → KeepsRules (plan_of l.self) l.flow h
