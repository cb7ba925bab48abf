-- Frames and ports as tables: what the contracts of code cite, and what can be computed with.
use Rattle.std.specs.Prelude.{ℕ, zero, suc, ◌+◌, ◌-◌, ◌^◌, min, cond, List, [], ◌∷◌, map, length, get_or, replicate, Some, None, Option, slice_index_or}
use Rattle.schedule.specs.Plan.{Plan, flow_count, port_at}
use Rattle.gates.specs.Timetable.{steady}
use Rattle.network.specs.declared.flight.Flight.{Flight}
use Rattle.network.specs.declared.flight.Flight.TheVariants.{Idle, Waiting}
use Rattle.network.specs.declared.row.Row.{Row}
use Rattle.network.specs.declared.row.FlowRecord.{FlowRecord}
use Rattle.network.specs.Lawful.{Meaning}
use Rattle.network.specs.Flows.{landed, arrives, span, departed, is_under_way, widened}
use Rattle.network.specs.Ports.{Port, empty_port, at_place, joined_by, joined, chosen, sent, flow_sent, passed, with_frame, line_length, carried}
use Rattle.network.specs.Calls.{Machine, Network}

-- now, a row for each flow, and the ports
pub record Tables (S : Type 0) : Type 0 where
  pub now : ℕ
  pub rows : List Row
  pub ports : List (Port S)

-- the row of a flow that begins, or is not there
abbrev pub blank : Row
blank = record { flight = Idle; accepted = 0; delivered = 0; transits = None }

-- the frame of flow f
abbrev pub flight_in : List Row → ℕ → Flight
flight_in rows f = (get_or rows f blank).flight

-- one more; a count of 64 bits stops at its end
abbrev pub counted : ℕ → ℕ
counted n = min (n + 1) (2 ^ 64 - 1)

-- step 1 of tick t: the frame, and what the record counts of a delivery
abbrev pub row_landed : Plan → ℕ → ℕ → Row → Row
row_landed P t f r = record {
  flight = landed P t f r.flight;
  accepted = r.accepted;
  delivered = cond (arrives P t f r.flight) (counted r.delivered) r.delivered;
  transits = cond (arrives P t f r.flight) (Some (widened r.transits ((span r.flight).1 - (span r.flight).0))) r.transits;
}

-- step 2
abbrev pub row_departed : Plan → ℕ → (ℕ → Option ℕ) → ℕ → Row → Row
row_departed P t begun f r = record { flight = departed P t begun f r.flight; accepted = r.accepted; delivered = r.delivered; transits = r.transits }

-- an offer at tick t is accepted
abbrev pub row_accepted : ℕ → Row → Row
row_accepted t r = record { flight = Waiting 0 t; accepted = counted r.accepted; delivered = r.delivered; transits = r.transits }

-- the record of a row
abbrev pub row_tells : Row → FlowRecord
row_tells r = record { accepted = r.accepted; delivered = r.delivered; transits = r.transits; under_way = is_under_way r.flight }

-- g of each element and its place, counted from k
abbrev pub over : {A B : Type 0} → (ℕ → A → B) → ℕ → List A → List B
over g k [] = []
over g k (x ∷ xs) = g k x ∷ over g (suc k) xs

-- of the element at a place; d where there is none
abbrev pub at_or : {A B : Type 0} → (A → B) → B → List A → ℕ → B
at_or g d [] p = d
at_or g d (x ∷ xs) zero = g x
at_or g d (x ∷ xs) (suc p) = at_or g d xs p

-- port p through tick t, with the rows, its octets and its reading l, and the flow whose frame it puts on its wire
unfoldable pub port_through : {S : Type 0} → Meaning S → Plan → ℕ → List Row → (ℕ → ℕ) → ℕ → ℕ → Port S → Port S × Option ℕ
port_through K P t rows octets l p x =
    let j = joined P t (length rows) (flight_in rows) p x in
    let c = chosen P octets K t l j in
    (passed P octets K t l (sent P t j c), flow_sent j c)

-- the port of such a pair; the flow of it
abbrev pub port_part : {S : Type 0} → Port S × Option ℕ → Port S
port_part y = y.0

-- likewise
abbrev pub flow_part : {S : Type 0} → Port S × Option ℕ → Option ℕ
flow_part y = y.1

-- one tick: the ports, by the rows as they were; then the rows, by what the ports put on their wires
unfoldable pub ticked_tables : {S : Type 0} → (ℕ → ℕ → ℕ) → Meaning S → Plan → (ℕ → ℕ → ℕ) → Tables S → Tables S
ticked_tables ρ K P σ n =
    let t = n.now in
    let both = over (λ p x. port_through K P t n.rows (σ p) (ρ p t) p x) 0 n.ports in
    let begun = map flow_part both in
    record {
      now = t + 1;
      rows = over (λ f r. row_departed P t (λ p. get_or begun p None) f (row_landed P t f r)) 0 n.rows;
      ports = map port_part both;
    }

-- an accepted scheduled frame
unfoldable pub offered_table : {S : Type 0} → Plan → ℕ → Tables S → Tables S
offered_table P f n = record { now = n.now; rows = at_place f (row_accepted n.now) n.rows; ports = at_place (port_at P f 0) (joined_by (f ∷ [])) n.ports }

-- the flows of a new plan begin with blank rows
unfoldable pub fresh_tables : {S : Type 0} → Plan → Tables S → Tables S
fresh_tables P n = record { now = n.now; rows = replicate (flow_count P) blank; ports = n.ports }

-- the calls see them so
abbrev pub tables : {S : Type 0} → (ℕ → ℕ → ℕ) → Meaning S → Machine (Tables S)
tables ρ K = record {
  now = λ n. n.now;
  flight = λ n. flight_in n.rows;
  tells = λ n f. row_tells (slice_index_or n.rows f blank);
  queued = λ n p c. at_or (line_length c) 0 n.ports p;
  wire = λ n p. at_or (carried n.now) None n.ports p;
  ticked = ticked_tables ρ K;
  offered = offered_table;
  lined = λ p c frame n. record { now = n.now; rows = n.rows; ports = at_place p (with_frame c frame) n.ports };
  afresh = fresh_tables;
}

-- what the clock of port p reads; a port that is not there reads the true tick
abbrev pub reads : {K : Type 0} → (K → ℕ → ℕ) → List K → ℕ → ℕ → ℕ
reads reading [] p t = t
reads reading (k ∷ ks) zero t = reading k t
reads reading (k ∷ ks) (suc p) t = reads reading ks p t

-- a network just started, with a selection for each port
abbrev pub new_tables : {S : Type 0} → Plan → ℕ → List S → Network (Tables S)
new_tables P B ss = record { plan = P; base = B; transition = steady; core = record { now = B; rows = replicate (flow_count P) blank; ports = map empty_port ss } }
