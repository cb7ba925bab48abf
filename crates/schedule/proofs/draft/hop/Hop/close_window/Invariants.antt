use Rattle.std.proofs.Common.{ℕ, ◌<◌}
use Rattle.schedule.specs.Rules.{ApartFrom}
use Rattle.schedule.specs.Drafts.{plan_of}
use Rattle.schedule.proofs.draft.hop.Hop.close_window.Given as goal

abbrev pub invariant-loop-other : goal.invariant-loop-other
invariant-loop-other l = (g : ℕ) → g < l.other → ApartFrom (plan_of l.self.draft.now) l.self.flow l.self.hop g
