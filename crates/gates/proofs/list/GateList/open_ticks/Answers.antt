use Rattle.std.proofs.Common.{◌+◌, ◌-◌, min, vec_items, sym, ap, ◌∙◌, arith}
use Rattle.gates.proofs.Rounds.{round_short, round_open, round_on}
use Rattle.gates.proofs.list.GateList.open_ticks.Goals as goal

pub returns-then-open-rest : goal.returns-then-open-rest
returns-then-open-rest c =
    let a = c.args.self.now in
    round_short (vec_items a.entries) a.cycle a.whole c.args.tick c.args.class c.args.most c.requires
    c.open_to_end-open.result c.min.result c.open_to_end-open.ensures (omega arith) c.min.ensures

pub returns-then-round-cycle : goal.returns-then-round-cycle
returns-then-round-cycle c =
    let a = c.args.self.now in
    round_open (vec_items a.entries) a.cycle a.whole c.args.tick c.args.class c.args.most c.requires c.open_to_end-round.result c.open_to_end-round.ensures (omega arith)

pub returns : goal.returns
returns c =
    let a = c.args.self.now in
    round_on (vec_items a.entries) a.cycle a.whole c.args.tick c.args.class c.args.most c.requires
    c.open_to_end-open.result c.open_to_end-round.result c.min-2.result c.open_to_end-open.ensures (omega arith)
    c.open_to_end-round.ensures (λ e. c.if-round-cycle.false (e ∙ sym c.from-cycle.ensures)) (c.min-2.ensures ∙ ap (λ n. min (n - c.args.tick + c.open_to_end-round.result) c.args.most) c.from-cycle.ensures)
