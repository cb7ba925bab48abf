-- The port that a port of the code stands for, and the steps of a tick at it, shut so that what cites them stays small.
use Rattle.std.specs.Prelude.{ℕ, Bool, cond, List, [], ◌∷◌, map, length, Option, ◌==◌, nat_lt, slice_index_or}
use Rattle.schedule.specs.Plan.{Plan}
use Rattle.egress.specs.Lines.{flows, frames}
use Rattle.network.specs.declared.port.Port as code
use Rattle.network.specs.declared.row.Row.{Row}
use Rattle.network.specs.Lawful.{Meaning}
use Rattle.egress.specs.declared.ordinary.Frame.{Frame}
use Rattle.network.specs.Ports.{Port, time_of, available, joined_by, joined, chosen, sent, flow_sent, passed, with_frame}
use Rattle.network.specs.Tables.{flight_in}

-- the port of the tables
unfoldable pub port_of : {S : Type 0} → code.Port S → Port S
port_of x = record { scheduled = flows x.scheduled; ordinary = map frames x.ordinary; class = x.wire.class; until = x.wire.until; selection = x.selection }

-- the flow whose frame it put on the wire in the tick run last
abbrev pub started_of : {S : Type 0} → code.Port S → Option ℕ
started_of x = x.started

-- both
abbrev pub seen : {S : Type 0} → code.Port S → Port S × Option ℕ
seen x = (port_of x, x.started)

-- something waits in the line of class c
abbrev pub has_waiting : {S : Type 0} → Port S → ℕ → Bool
has_waiting x c = cond (c == 7) (nat_lt 0 (length x.scheduled)) (nat_lt 0 (length (slice_index_or x.ordinary c [])))

-- the wire time of the first frame of a class
unfoldable pub timing : Plan → {S : Type 0} → Port S → ℕ → ℕ
timing P x c = time_of P x c

-- a class is available
unfoldable pub ready : Plan → (ℕ → ℕ) → ℕ → {S : Type 0} → Port S → ℕ → Bool
ready P octets l x c = available P octets l x c

-- step 1
unfoldable pub joining : Plan → ℕ → List Row → ℕ → {S : Type 0} → Port S → Port S
joining P t rows p x = joined P t (length rows) (flight_in rows) p x

-- step 2: the class that is chosen
unfoldable pub choosing : Plan → (ℕ → ℕ) → {S : Type 0} → Meaning S → ℕ → ℕ → Port S → Option ℕ
choosing P octets K t l x = chosen P octets K t l x

-- and what the choice does to the port
unfoldable pub sending : Plan → ℕ → {S : Type 0} → Port S → Option ℕ → Port S
sending P t x c = sent P t x c

-- step 3
unfoldable pub passing : Plan → (ℕ → ℕ) → {S : Type 0} → Meaning S → ℕ → ℕ → Port S → Port S
passing P octets K t l x = passed P octets K t l x

-- steps 2 and 3
unfoldable pub stepping : {S : Type 0} → Meaning S → Plan → ℕ → (ℕ → ℕ) → ℕ → Port S → Port S × Option ℕ
stepping K P t octets l x = (passing P octets K t l (sending P t x (choosing P octets K t l x)), flow_sent x (choosing P octets K t l x))

-- a flow joins the line of class 7
unfoldable pub adding : ℕ → {S : Type 0} → Port S → Port S
adding f x = joined_by (f ∷ []) x

-- a frame joins the line of an ordinary class
unfoldable pub lining : ℕ → Frame → {S : Type 0} → Port S → Port S
lining c frame x = with_frame c frame x
