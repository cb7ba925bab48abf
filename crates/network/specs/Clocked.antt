-- What a port of the code with its gates and its clock stands for, and a tick at it.
use Rattle.std.specs.Prelude.{ℕ, List, Option}
use Rattle.schedule.specs.Plan.{Plan}
use Rattle.gates.specs.declared.timetable.Timetable.{Timetable}
use Rattle.gates.specs.Lookup.{octets}
use Rattle.network.specs.declared.row.Row.{Row}
use Rattle.network.specs.declared.clocked.ClockedPort.{ClockedPort}
use Rattle.network.specs.Lawful.{Meaning}
use Rattle.network.specs.Ports.{Port}
use Rattle.network.specs.Tables.{port_through}
use Rattle.network.specs.Steps.{port_of, started_of, seen}

-- the port of the tables
abbrev pub port_in : {S K : Type 0} → ClockedPort S K → Port S
port_in x = port_of x.port

-- the flow whose frame it put on the wire in the tick run last
abbrev pub started_in : {S K : Type 0} → ClockedPort S K → Option ℕ
started_in x = started_of x.port

-- what it goes by
abbrev pub guide_of : {S K : Type 0} → ClockedPort S K → Timetable × K
guide_of x = (x.gates, x.clock)

-- all of these
abbrev pub whole : {S K : Type 0} → ClockedPort S K → (Port S × Option ℕ) × (Timetable × K)
whole x = (seen x.port, guide_of x)

-- port p through tick t, with the rows, by its own gates and clock, which stay
abbrev pub run_through : {S K : Type 0} → (K → ℕ → ℕ) → Meaning S → Plan → ℕ → List Row → ℕ → (Port S × Option ℕ) × (Timetable × K) → (Port S × Option ℕ) × (Timetable × K)
run_through reading X P t rows p x = (port_through X P t rows (octets x.1.0) (reading x.1.1 t) p x.0.0, x.1)
