-- The tables that the frames and ports of the code stand for, and the timetables that they follow.
use Rattle.std.specs.Prelude.{◌≡◌, ℕ, zero, suc, List, [], ◌∷◌, map, vec_items, vec_len}
use Rattle.gates.specs.declared.timetable.Timetable.{Timetable}
use Rattle.gates.specs.Lookup.{octets}
use Rattle.network.specs.declared.traffic.Traffic.{Traffic}
use Rattle.egress.specs.declared.ordinary.Frame.{Frame}
use Rattle.network.specs.Ports.{at_place, with_frame}
use Rattle.network.specs.Tables.{Tables}
use Rattle.network.specs.Clocked.{port_in, guide_of}

-- the tables
unfoldable pub tables_of : {S K : Type 0} → Traffic S K → Tables S
tables_of n = record { now = n.now; rows = vec_items n.rows; ports = map port_in (vec_items n.ports) }

-- the timetable and the clock of each port
unfoldable pub guides_of : {S K : Type 0} → Traffic S K → List (Timetable × K)
guides_of n = map guide_of (vec_items n.ports)

-- after a call there are the ports that there were, with their timetables and clocks
abbrev pub KeepsPorts : {S K : Type 0} → Traffic S K → Traffic S K → Type 0
KeepsPorts before after = (vec_len after.ports ≡ vec_len before.ports) × (guides_of after ≡ guides_of before)

-- the timetables
abbrev pub timetables : {K : Type 0} → List (Timetable × K) → List Timetable
timetables gs = map (λ g. g.0) gs

-- the clocks
abbrev pub clocks : {K : Type 0} → List (Timetable × K) → List K
clocks gs = map (λ g. g.1) gs

-- the octets of port p at each local tick; a port that is not there keeps every gate shut
abbrev pub followed : List Timetable → ℕ → ℕ → ℕ
followed [] p l = 0x00
followed (g ∷ gs) zero l = octets g l
followed (g ∷ gs) (suc p) l = followed gs p l

-- an ordinary frame joins the line of a port and class
unfoldable pub lined_table : {S : Type 0} → ℕ → ℕ → Frame → Tables S → Tables S
lined_table p c frame n = record { now = n.now; rows = n.rows; ports = at_place p (with_frame c frame) n.ports }
