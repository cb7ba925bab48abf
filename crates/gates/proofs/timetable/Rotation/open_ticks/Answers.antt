use Rattle.std.proofs.Common.{rules, vec_items}
use Rattle.gates.proofs.Rounds.{list_shut, list_turns}
use Rattle.gates.proofs.timetable.Rotation.open_ticks.Goals as goal

pub returns-then-l-self : goal.returns-then-l-self
returns-then-l-self c = search (rules, list_shut)

pub returns : goal.returns
returns c =
    let a = c.args.self.now in
    list_turns (vec_items a.list.entries) a.list.cycle a.base c.args.l c.args.class c.args.most c.open_ticks.result c.if-l-self.false (rw c.into_round.ensures at c.open_ticks.ensures)
