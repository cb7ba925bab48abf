use Rattle.std.proofs.Common.{below_more}
use Rattle.schedule.specs.Rules.{FlowKeeps}
use Rattle.schedule.specs.Drafts.{plan_of}
use Rattle.schedule.proofs.draft.Draft.first_fault.Goals as goal

pub loop-flow-preserved : goal.loop-flow-preserved
loop-flow-preserved c = below_more (FlowKeeps (plan_of c.args.self.now)) c.loop-flow.flow c.loop-flow.invariant c.in_default.ensures
