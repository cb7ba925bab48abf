use Rattle.std.proofs.Common.{◌≡◌, List, vec_items}
use Rattle.schedule.specs.declared.tables.Window.{Window}
use Rattle.schedule.specs.Plan.{flow_at, hop_count}
use Rattle.schedule.specs.Drafts.{plan_of}
use Rattle.schedule.specs.Raising.{retimed, Later, Solves, rise_left}
use Rattle.schedule.proofs.draft.Draft.raise_offsets.Given as goal

-- only windows have moved, none is earlier, and every solution is still to come
abbrev pub invariant-loop-hop : goal.invariant-loop-hop
invariant-loop-hop l =
    (plan_of l.self ≡ retimed (plan_of l.initial.self) (vec_items l.self.windows))
    × Later (flow_at (plan_of l.initial.self) l.flow).first (hop_count (plan_of l.initial.self) l.flow) (vec_items l.initial.self.windows) (vec_items l.self.windows)
    × ((others : List Window) → Solves (plan_of l.initial.self) l.flow others → Later (flow_at (plan_of l.initial.self) l.flow).first (hop_count (plan_of l.initial.self) l.flow) (vec_items l.self.windows) others)

abbrev pub decreases-loop-hop : goal.decreases-loop-hop
decreases-loop-hop l = rise_left l.self.cycle (vec_items l.self.windows)
