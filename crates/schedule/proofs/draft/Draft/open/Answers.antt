use Rattle.std.proofs.Common.{vec_items, vec_len, sym}
use Rattle.schedule.proofs.Opening.{timing_held, ports_held, delays_held, tables_empty, flows_empty, stretches_empty, order_empty, windows_empty, routes_empty}
use Rattle.schedule.proofs.draft.Draft.open.Goals as goal

pub invariant_of-result : goal.invariant_of-result
invariant_of-result c =
    let timing = timing_held c.args.timing.cycle c.args.timing.error c.args.timing.extension (sym c.if-not-is_allowed.ensures) in
    let ports = vec_items c.in_ok-ports.ports in
    let made = c.in_ok-ports.ensures in
    let allowed = sym c.if-not-are_ports_allowed.ensures in
    let flows = c.in_ok-flows.ensures in
    let windows = c.in_ok-windows.ensures in
    let fs = vec_items c.in_ok-flows.flows in
    let ws = vec_items c.in_ok-windows.windows in
    let n = vec_len c.in_ok-ports.ports in
    record {
      timing = timing;
      counted = ports_held ports c.args.delays.now allowed made;
      delayed = delays_held ports c.args.delays.now allowed made;
      tables = tables_empty c.args.timing.cycle n fs ws flows.items windows.items;
      allowed = flows_empty c.args.timing.cycle n fs ws flows.items windows.items;
      stretches = stretches_empty c.args.timing.cycle n fs ws flows.items windows.items;
      ordered = order_empty c.args.timing.cycle n fs ws flows.items windows.items;
      placed = windows_empty c.args.timing.cycle n fs ws flows.items windows.items;
      routes = routes_empty c.args.timing.cycle n fs ws flows.items windows.items;
      reserved = (flows.capacity, windows.capacity);
    }
