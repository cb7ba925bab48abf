use Rattle.std.proofs.Common.{ℕ, ◌<◌, ◌≤◌, [], ◌∷◌, ◌++◌, length, vec_items, vec_len, vec_capacity, sym, ap, ◌∙◌, arith}
use Rattle.schedule.specs.declared.tables.Flow.{Flow}
use Rattle.schedule.specs.Limits.{flow_allowed, route_allowed, offsets_allowed}
use Rattle.schedule.proofs.Adding.{held_after_add, ordered_after_add}
use Rattle.schedule.proofs.draft.Draft.add.Goals as goal

pub invariant_of-self : goal.invariant_of-self
invariant_of-self c =
    let d = c.args.self.now in
    let r = c.args.request in
    let route = r.route.now in
    let offsets = c.args.offsets.now in
    let fs = vec_items d.flows in
    let ws = vec_items d.windows in
    let n = vec_len d.ports in
    let allowed = ap (λ n. flow_allowed n r.release r.octets r.deadline) (sym c.from-cycle.ensures) ∙ sym c.if-not-is_flow_allowed.ensures in
    let routed = ap (λ n. route_allowed n route) (sym c.len-2.ensures) ∙ sym c.if-not-is_route_allowed.ensures in
    let spaced = ap (λ n. offsets_allowed n route offsets) (sym c.from-cycle.ensures) ∙ sym c.if-not-are_offsets_allowed.ensures in
    let few : length (vec_items d.flows) < 16 = omega (arith, d.flows.ok.0, c.len.ensures) in
    let first = c.len-3.ensures ∙ d.windows.ok.0 in
    let flow : ℕ → Flow = λ i. record { release = r.release; octets = r.octets; deadline = r.deadline; first = i; hops = length route } in
    let is_fs = c.push_reserved.ensures.items ∙ ap (λ i. fs ++ flow i ∷ []) first in
    let is_ws = c.push_windows.ensures.items in
    let held = held_after_add d.cycle n fs ws d.tables d.allowed d.stretches d.placed d.routes few r.release r.octets r.deadline route offsets allowed routed spaced
    (vec_items c.push_reserved.new.self) (vec_items c.push_windows.new.windows) is_fs is_ws in
    let ordered = ordered_after_add d.cycle n fs ws d.tables d.allowed d.stretches d.placed d.routes few r.release r.octets r.deadline route offsets allowed routed spaced
    d.ordered (vec_items c.push_reserved.new.self) is_fs in
    let room : (16 ≤ vec_capacity c.push_reserved.new.self) × (96 ≤ vec_capacity c.push_windows.new.windows) = (omega (arith, d.reserved, c.push_reserved.ensures.capacity), omega (arith, d.reserved, c.push_windows.ensures.capacity)) in
    record {
      timing = d.timing;
      counted = d.counted;
      delayed = d.delayed;
      tables = held.0;
      allowed = held.1;
      stretches = held.2;
      ordered = ordered;
      placed = held.3;
      routes = held.4;
      reserved = room;
    }
