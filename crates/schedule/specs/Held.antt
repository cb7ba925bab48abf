-- What every draft keeps, whatever was added to it: limits and the shape of its tables.
use Rattle.std.specs.Prelude.{◌≡◌, ℕ, ◌+◌, ◌*◌, ◌<◌, ◌≤◌, true, List, map, length, take, drop, slice_index_or}
use Rattle.schedule.specs.declared.tables.Port.{Port}
use Rattle.schedule.specs.declared.tables.Flow.{Flow}
use Rattle.schedule.specs.declared.tables.Window.{Window}
use Rattle.schedule.specs.Plan.{no_port, no_flow, no_window}
use Rattle.schedule.specs.Limits.{ports_differ}

-- cycle, clock error and largest extension are within their limits
abbrev pub TimingHeld : ℕ → ℕ → ℕ → Type 0
TimingHeld cycle error extension = (1000 ≤ cycle) × (cycle ≤ 1250000) × (error ≤ 125) × (extension < cycle)

-- there are 1 to 16 ports
abbrev pub PortsHeld : List Port → Type 0
PortsHeld ports = (0 < length ports) × (length ports ≤ 16)

-- each delay is within its limit
abbrev pub DelaysHeld : List Port → Type 0
DelaysHeld ports = (p : ℕ) → p < length ports → (slice_index_or ports p no_port).delay ≤ 25000

-- there are at most 16 flows, and at most 6 windows for each
abbrev pub TablesHeld : List Flow → List Window → Type 0
TablesHeld flows windows = (length flows ≤ 16) × (length windows ≤ 6 * length flows)

-- release, octets and deadline of each flow are within their limits
abbrev pub FlowsHeld : ℕ → List Flow → Type 0
FlowsHeld cycle flows = (f : ℕ) → f < length flows
    → ((slice_index_or flows f no_flow).release < cycle) × (64 ≤ (slice_index_or flows f no_flow).octets) × ((slice_index_or flows f no_flow).octets ≤ 1522)
    × (1 ≤ (slice_index_or flows f no_flow).deadline) × ((slice_index_or flows f no_flow).deadline ≤ 1250000)

-- the hops of each flow, 1 to 6, are a stretch of the window table
abbrev pub StretchesHeld : List Flow → List Window → Type 0
StretchesHeld flows windows = (f : ℕ) → f < length flows
    → (1 ≤ (slice_index_or flows f no_flow).hops) × ((slice_index_or flows f no_flow).hops ≤ 6) × ((slice_index_or flows f no_flow).first + (slice_index_or flows f no_flow).hops ≤ length windows)

-- the windows of a flow stand behind those of the flows before it
abbrev pub OrderHeld : List Flow → Type 0
OrderHeld flows = (f g : ℕ) → g < f → f < length flows → (slice_index_or flows g no_flow).first + (slice_index_or flows g no_flow).hops ≤ (slice_index_or flows f no_flow).first

-- each window is at a port of the plan, and begins in the cycle
abbrev pub WindowsHeld : ℕ → ℕ → List Window → Type 0
WindowsHeld cycle ports windows = (i : ℕ) → i < length windows
    → ((slice_index_or windows i no_window).port < ports) × ((slice_index_or windows i no_window).offset < cycle)

-- the ports that flow f crosses, hop by hop
abbrev pub route_in : List Flow → List Window → ℕ → List ℕ
route_in flows windows f = map (λ (w : Window). w.port) (take (slice_index_or flows f no_flow).hops (drop (slice_index_or flows f no_flow).first windows))

-- no route crosses a port twice
abbrev pub RoutesHeld : ℕ → List Flow → List Window → Type 0
RoutesHeld ports flows windows = (f : ℕ) → f < length flows → ports_differ ports (route_in flows windows f) ≡ true
