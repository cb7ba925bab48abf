-- An empty draft keeps what every draft keeps.
use Rattle.std.proofs.Common.{◌≡◌, ℕ, true, ◌&&◌, ltb, leb, List, [], map, length, get_or, ap, ◌∙◌, arith}
use Rattle.std.proofs.lemmas.List.{length-map, get_or-map}
use Rattle.std.proofs.lemmas.Bool.{and_parts, ltb-true, leb-true}
use Rattle.schedule.specs.declared.tables.Port.{Port}
use Rattle.schedule.specs.declared.tables.Flow.{Flow}
use Rattle.schedule.specs.declared.tables.Window.{Window}
use Rattle.schedule.specs.Plan.{no_port}
use Rattle.schedule.specs.Limits.{within, each_below, timing_allowed, ports_allowed}
use Rattle.schedule.specs.Held.{TimingHeld, PortsHeld, DelaysHeld, TablesHeld, FlowsHeld, StretchesHeld, OrderHeld, WindowsHeld, RoutesHeld}
use Rattle.schedule.specs.Drafts.{port_with}
use Rattle.schedule.proofs.Limited.{within_low, within_high, each_below_at}

pub timing_held : (cycle error extension : ℕ) → timing_allowed cycle error extension ≡ true → TimingHeld cycle error extension
timing_held cycle error extension e =
    let (a, b) = and_parts (within 1000 1250000 cycle) (leb error 125 && ltb extension cycle) e in
    let (c, d) = and_parts (leb error 125) (ltb extension cycle) b in
    (within_low 1000 1250000 cycle a, within_high 1000 1250000 cycle a, leb-true error 125 c, ltb-true extension cycle d)

module _ (ports : List Port) (delays : List ℕ) (e : ports_allowed delays ≡ true) (is : ports ≡ map port_with delays) where
  long : length ports ≡ length delays
  long = ap length is ∙ length-map delays port_with

  pub ports_held : PortsHeld ports
  ports_held =
      let (a, b) = and_parts (within 1 16 (length delays)) (each_below 25001 delays) e in
      let low = within_low 1 16 (length delays) a in
      let high = within_high 1 16 (length delays) a in
      let n = long in
      (omega arith, omega arith)

  pub delays_held : DelaysHeld ports
  delays_held p h =
      let (a, b) = and_parts (within 1 16 (length delays)) (each_below 25001 delays) e in
      let n = long in
      let low = each_below_at 25001 delays b p 0 (omega arith) in
      let at : get_or ports p no_port ≡ port_with (get_or delays p 0) = ap (λ (l : List Port). get_or l p no_port) is ∙ get_or-map port_with delays p 0 no_port (omega arith) in
      let d = ap (λ (x : Port). x.delay) at in
      omega arith

module _ (cycle ports : ℕ) (flows : List Flow) (windows : List Window) (no_flows : flows ≡ []) (no_windows : windows ≡ []) where
  flowless : length flows ≡ 0
  flowless = ap length no_flows

  windowless : length windows ≡ 0
  windowless = ap length no_windows

  pub tables_empty : TablesHeld flows windows
  tables_empty = let a = flowless in let b = windowless in (omega arith, omega arith)

  pub flows_empty : FlowsHeld cycle flows
  flows_empty f h = let a = flowless in absurd (omega arith)

  pub stretches_empty : StretchesHeld flows windows
  stretches_empty f h = let a = flowless in absurd (omega arith)

  pub order_empty : OrderHeld flows
  order_empty f g l h = let a = flowless in absurd (omega arith)

  pub windows_empty : WindowsHeld cycle ports windows
  windows_empty i h = let a = windowless in absurd (omega arith)

  pub routes_empty : RoutesHeld ports flows windows
  routes_empty f h = let a = flowless in absurd (omega arith)
