use Rattle.std.proofs.Common.{◌≡◌, ℕ, ◌<◌}
use Rattle.schedule.specs.Plan.{port_at}
use Rattle.schedule.specs.Rules.{Apart}
use Rattle.schedule.specs.Drafts.{plan_of}
use Rattle.schedule.proofs.draft.hop.Hop.close_in_flow.Given as goal

abbrev pub invariant-loop-hop : goal.invariant-loop-hop
invariant-loop-hop l = (k : ℕ) → k < l.hop → port_at (plan_of l.self.draft.now) l.other k ≡ port_at (plan_of l.self.draft.now) l.self.flow l.self.hop → Apart (plan_of l.self.draft.now) l.self.flow l.self.hop l.other k
