use Rattle.std.proofs.Common.{◌≡◌, ◌+◌, ◌<◌, length, get_or, set, vec_items, vec_len, ap, arith}
use Rattle.std.proofs.lemmas.List.{get_or_read}
use Rattle.schedule.specs.declared.tables.Flow.{Flow}
use Rattle.schedule.specs.declared.tables.Window.{Window}
use Rattle.schedule.specs.Plan.{no_flow, no_window}
use Rattle.schedule.proofs.Moving.{held_after_move}
use Rattle.schedule.proofs.draft.Draft.set_offset.Goals.{After-index}
use Rattle.schedule.proofs.draft.Draft.set_offset.Goals as goal

first_read : (c : goal.After-index) → c.index.result.now.first ≡ (get_or (vec_items c.args.self.now.flows) c.args.flow no_flow).first
first_read c = ap (λ (x : Flow). x.first) (get_or_read (vec_items c.args.self.now.flows) c.args.flow c.index.result.now c.requires.has.0 c.index.ensures no_flow)

in_table : (c : goal.After-index) → c.index.result.now.first + c.args.hop < length (vec_items c.args.self.now.windows)
in_table c = let e = first_read c in let s = (c.args.self.now.stretches c.args.flow c.requires.has.0).2 in omega (arith, c.requires.has.1)

pub invariant_of-self : goal.invariant_of-self
invariant_of-self c =
    let d = c.args.self.now in
    let ws = vec_items d.windows in
    let i = c.index.result.now.first + c.args.hop in
    let lt = in_table (goal.at.invariant_of-self c).After-index in
    let at = get_or_read ws i c.index_mut.result.now lt c.index_mut.ensures.value no_window in
    let is = ap (λ (w : Window). set ws i (record { port = w.port; offset = c.args.to })) at in
    let held = held_after_move ws i c.args.to lt d.cycle (vec_len d.ports) (vec_items d.flows) (d.tables, d.allowed, d.stretches, d.placed, d.routes, d.ordered) c.requires.low (set ws i (record { port = c.index_mut.result.now.port; offset = c.args.to })) is in
    record {
      timing = d.timing;
      counted = d.counted;
      delayed = d.delayed;
      tables = held.0;
      allowed = held.1;
      stretches = held.2;
      ordered = held.5;
      placed = held.3;
      routes = held.4;
      reserved = d.reserved;
    }
