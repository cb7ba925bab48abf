-- The tables and the functions are one network: they reply alike, and the tables show what the functions hold.
use Rattle.std.specs.Prelude.{◌≡◌, ℕ, ◌^◌, ◌<◌, ◌≤◌, List, length, slice_index_or}
use Rattle.schedule.specs.Plan.{Plan, flow_count}
use Rattle.network.specs.Lawful.{Meaning, port_count}
use Rattle.network.specs.Ports.{Port}
use Rattle.network.specs.Calls.{Network, Call, run, replies}
use Rattle.network.specs.Functions.{Core, extremes, functions, new}
use Rattle.network.specs.Tables.{Tables, blank, tables, new_tables}
use Rattle.network.specs.declared.row.Row.{Row}
use Rattle.network.specs.declared.flight.Flight.{Flight}

-- a row shows the frame of a flow, and counts its logs
pub record RowShows (r : Row) (x : Flight) (accepted : List ℕ) (arrived : List (ℕ × ℕ)) : Type 0 where
  pub flight : r.flight ≡ x
  pub accepted_count : r.accepted ≡ length accepted
  pub delivered_count : r.delivered ≡ length arrived
  pub transits : r.transits ≡ extremes arrived

-- tables show a network of the same plan: at the same tick, row by row and port by port
pub record Shows {S : Type 0} (n : Network (Tables S)) (m : Network (Core S)) : Type 0 where
  pub plan : n.plan ≡ m.plan
  pub base : n.base ≡ m.base
  pub transition : n.transition ≡ m.transition
  pub now : n.core.now ≡ m.core.now
  pub flows : length n.core.rows ≡ flow_count m.plan
  pub links : length n.core.ports ≡ port_count m.plan
  pub rows : (f : ℕ) → f < flow_count m.plan → RowShows (slice_index_or n.core.rows f blank) (m.core.flight f) (m.core.accepted f) (m.core.arrived f)
  pub ports : (p : ℕ) (d : Port S) → p < port_count m.plan → slice_index_or n.core.ports p d ≡ m.core.port p

-- for every start and every list of calls the tables reply as the functions do, and show them after it
abbrev pub TablesShow : Type 0 → Type 0
TablesShow S = (P : Plan) (B : ℕ) (ρ : ℕ → ℕ → ℕ) (K : Meaning S) (ss : List S) (s : ℕ → S) → B ≤ 2 ^ 47 → length ss ≡ port_count P → ((p : ℕ) (d : S) → p < length ss → slice_index_or ss p d ≡ s p)
    → (cs : List Call) → (replies (tables ρ K) cs (new_tables P B ss) ≡ replies (functions ρ K) cs (new P B s))
    × Shows (run (tables ρ K) cs (new_tables P B ss)) (run (functions ρ K) cs (new P B s))
