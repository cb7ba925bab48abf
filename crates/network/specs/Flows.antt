-- What a tick does to the frame of a flow, seen from the flow.
use Rattle.std.specs.Prelude.{ℕ, suc, ◌+◌, min, max, Bool, true, false, cond, not, ◌&&◌, Some, None, Option, ◌==◌, nat_lt}
use Rattle.schedule.specs.Plan.{Plan, hop_count, port_at, wire_of, delay_of}
use Rattle.network.specs.declared.flight.Flight.{Flight}
use Rattle.network.specs.declared.flight.Flight.TheVariants.{Idle, Waiting, Moving}
use Rattle.network.specs.declared.row.Transits.{Transits}

-- flow f has a hop after hop h
abbrev pub has_next : Plan → ℕ → ℕ → Bool
has_next P f h = nat_lt (suc h) (hop_count P f)

-- step 1 of tick t: a frame whose reach tick is t waits at its next hop, or is delivered
abbrev pub landed : Plan → ℕ → ℕ → Flight → Flight
landed P t f Idle = Idle
landed P t f (Waiting h u) = Waiting h u
landed P t f (Moving h u a) = cond (a == t) (cond (has_next P f h) (Waiting (suc h) u) Idle) (Moving h u a)

-- in step 1 the frame of flow f joins the line of port p
abbrev pub joins : Plan → ℕ → ℕ → ℕ → Flight → Bool
joins P t p f Idle = false
joins P t p f (Waiting h u) = false
joins P t p f (Moving h u a) = a == t && (has_next P f h && port_at P f (suc h) == p)

-- in step 1 it is delivered
abbrev pub arrives : Plan → ℕ → ℕ → Flight → Bool
arrives P t f Idle = false
arrives P t f (Waiting h u) = false
arrives P t f (Moving h u a) = a == t && not (has_next P f h)

-- the release tick and the reach tick of a frame that is under way on a wire
abbrev pub span : Flight → ℕ × ℕ
span Idle = (0, 0)
span (Waiting h u) = (0, 0)
span (Moving h u a) = (u, a)

-- the flow is the one named, if one is
abbrev pub is_flow : Option ℕ → ℕ → Bool
is_flow None f = false
is_flow (Some g) f = g == f

-- step 2 of tick t, with the flow whose frame each port puts on its wire: the frame comes to the end of the link after its wire time and the delay
abbrev pub departed : Plan → ℕ → (ℕ → Option ℕ) → ℕ → Flight → Flight
departed P t begun f Idle = Idle
departed P t begun f (Waiting h u) = cond (is_flow (begun (port_at P f h)) f) (Moving h u (t + wire_of P f + delay_of P (port_at P f h))) (Waiting h u)
departed P t begun f (Moving h u a) = Moving h u a

-- the frame was released at tick t
abbrev pub released_at : ℕ → Flight → Bool
released_at t Idle = false
released_at t (Waiting h u) = u == t
released_at t (Moving h u a) = u == t

-- a frame is in the network
abbrev pub is_under_way : Flight → Bool
is_under_way Idle = false
is_under_way (Waiting h u) = true
is_under_way (Moving h u a) = true

-- the least and greatest transit, with one transit more
abbrev pub widened : Option Transits → ℕ → Transits
widened None x = record { least = x; greatest = x }
widened (Some s) x = record { least = min s.least x; greatest = max s.greatest x }
