-- What a plan holds, and how its parts are read. Numbers of ports, flows and hops count from 0.
use Rattle.std.specs.Prelude.{ℕ, zero, suc, ◌+◌, ◌-◌, ◌*◌, ◌<◌, List, length, get_or, take, drop, slice_index_or}
use Rattle.schedule.specs.declared.tables.Port.{Port}
use Rattle.schedule.specs.declared.tables.Flow.{Flow}
use Rattle.schedule.specs.declared.tables.Window.{Window}

-- the cycle, the clock error and the largest extension in ticks, and the three tables
pub record Plan : Type 0 where
  pub cycle : ℕ
  pub error : ℕ
  pub extension : ℕ
  pub ports : List Port
  pub flows : List Flow
  pub windows : List Window

-- what a table is read as past its end
abbrev pub no_port : Port
no_port = record { delay = 0 }

-- likewise
abbrev pub no_flow : Flow
no_flow = record { release = 0; octets = 0; deadline = 0; first = 0; hops = 0 }

-- likewise
abbrev pub no_window : Window
no_window = record { port = 0; offset = 0 }

-- flow f
abbrev pub flow_at : Plan → ℕ → Flow
flow_at P f = slice_index_or P.flows f no_flow

-- the window of hop h of flow f
abbrev pub window_at : Plan → ℕ → ℕ → Window
window_at P f h = slice_index_or P.windows ((flow_at P f).first + h) no_window

-- how many flows there are
abbrev pub flow_count : Plan → ℕ
flow_count P = length P.flows

-- how many hops flow f has
abbrev pub hop_count : Plan → ℕ → ℕ
hop_count P f = (flow_at P f).hops

-- the windows of flow f, hop by hop
abbrev pub windows_of : Plan → ℕ → List Window
windows_of P f = take (flow_at P f).hops (drop (flow_at P f).first P.windows)

-- there is a flow f, and it has a hop h
abbrev pub HasHop : Plan → ℕ → ℕ → Type 0
HasHop P f h = (f < flow_count P) × (h < hop_count P f)

-- the tick of the cycle at which flow f is released
abbrev pub release_of : Plan → ℕ → ℕ
release_of P f = (flow_at P f).release

-- the most ticks from release to delivery that flow f allows
abbrev pub deadline_of : Plan → ℕ → ℕ
deadline_of P f = (flow_at P f).deadline

-- the wire time of a frame of flow f: its octets, preamble, start delimiter and the gap between frames
abbrev pub wire_of : Plan → ℕ → ℕ
wire_of P f = (flow_at P f).octets + 20

-- the port that hop h of flow f crosses
abbrev pub port_at : Plan → ℕ → ℕ → ℕ
port_at P f h = (window_at P f h).port

-- the tick of the cycle at which the window of hop h of flow f begins
abbrev pub offset_at : Plan → ℕ → ℕ → ℕ
offset_at P f h = (window_at P f h).offset

-- the delay of the link that port p feeds
abbrev pub delay_of : Plan → ℕ → ℕ
delay_of P p = (get_or P.ports p no_port).delay

-- the end of a window, the first tick after it: the frame, and the clock error on either side
abbrev pub end_at : Plan → ℕ → ℕ → ℕ
end_at P f h = offset_at P f h + wire_of P f + 2 * P.error

-- when a frame that starts at the offset of hop h has crossed the link of that hop
abbrev pub crossed_at : Plan → ℕ → ℕ → ℕ
crossed_at P f h = offset_at P f h + wire_of P f + delay_of P (port_at P f h)

-- the latest tick at which the frame can join the line of hop h; after the last hop, be delivered
abbrev pub late_at : Plan → ℕ → ℕ → ℕ
late_at P f zero = release_of P f
late_at P f (suc h) = crossed_at P f h + P.error

-- the earliest such tick, and the clock error more (so that nothing is cut off at 0)
abbrev pub early_at : Plan → ℕ → ℕ → ℕ
early_at P f zero = release_of P f + P.error
early_at P f (suc h) = crossed_at P f h

-- the reach of hop h: the earliest and the latest tick at which the frame can join the line there
abbrev pub reach_of : Plan → ℕ → ℕ → ℕ × ℕ
reach_of P f h = (early_at P f h - P.error, late_at P f h)

-- the certificate of a flow: its least and its greatest transit, from release to delivery after the last hop
abbrev pub certificate_of : Plan → ℕ → ℕ × ℕ
certificate_of P f = ((reach_of P f (hop_count P f)).0 - release_of P f, (reach_of P f (hop_count P f)).1 - release_of P f)
