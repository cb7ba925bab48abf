use Rattle.std.proofs.Common.{below_more}
use Rattle.schedule.specs.Rules.{ApartFrom}
use Rattle.schedule.specs.Drafts.{plan_of}
use Rattle.schedule.proofs.draft.hop.Hop.close_window.Goals as goal

pub loop-other-preserved : goal.loop-other-preserved
loop-other-preserved c = below_more (ApartFrom (plan_of c.args.self.now.draft.now) c.args.self.now.flow c.args.self.now.hop) c.loop-other.other c.loop-other.invariant c.in_default.ensures
