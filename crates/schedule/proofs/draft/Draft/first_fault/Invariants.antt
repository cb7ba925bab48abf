use Rattle.std.proofs.Common.{ℕ, ◌<◌}
use Rattle.schedule.specs.Rules.{FlowKeeps}
use Rattle.schedule.specs.Drafts.{plan_of}
use Rattle.schedule.proofs.draft.Draft.first_fault.Given as goal

abbrev pub invariant-loop-flow : goal.invariant-loop-flow
invariant-loop-flow l = (f : ℕ) → f < l.flow → FlowKeeps (plan_of l.self) f
