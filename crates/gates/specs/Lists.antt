-- Gate control lists, and which of them is that of a port.
use Rattle.std.specs.Prelude.{◌≡◌, ℕ, ◌+◌, ◌-◌, ◌<◌, ◌≤◌, cond, List, [], ◌∷◌, length, ◌≢◌, nat_lt, slice_index_or}
use Rattle.gates.specs.declared.entry.GateEntry.{GateEntry}
use Rattle.schedule.specs.declared.checked.CheckedPlan.{CheckedPlan}
use Rattle.schedule.specs.Plan.{Plan}
use Rattle.schedule.specs.Checks.{checked_plan}
use Rattle.gates.specs.Octets.{octet_at}

-- what a list is read as past its end
abbrev pub no_entry : GateEntry
no_entry = record { octet = 0; ticks = 0 }

-- how many ticks the entries last together
abbrev pub total : List GateEntry → ℕ
total [] = 0
total (e ∷ es) = e.ticks + total es

-- the octet that the entries yield at tick x, counted from the begin of the first
abbrev pub yields : List GateEntry → ℕ → ℕ
yields [] x = 0
yields (e ∷ es) x = cond (nat_lt x e.ticks) e.octet (yields es (x - e.ticks))

-- no entry is empty
abbrev pub Lasting : List GateEntry → Type 0
Lasting es = (i : ℕ) → i < length es → 0 < (slice_index_or es i no_entry).ticks

-- no two neighbours have one octet
abbrev pub Changing : List GateEntry → Type 0
Changing es = (i : ℕ) → i + 1 < length es → (slice_index_or es i no_entry).octet ≢ (slice_index_or es (i + 1) no_entry).octet

-- the gate list of port p: at every tick of the cycle it yields the octet that the windows give, in as few entries as can be
pub record IsGateList (P : Plan) (p : ℕ) (es : List GateEntry) : Type 0 where
  pub yielding : (x : ℕ) → x < P.cycle → yields es x ≡ octet_at P p x
  pub lasting : Lasting es
  pub changing : Changing es
  pub whole : total es ≡ P.cycle
  pub few : length es ≤ 49

-- a port of a plan has one gate list and no other
abbrev pub OneGateList : Type 0
OneGateList = (P : Plan) (p : ℕ) (es fs : List GateEntry) → IsGateList P p es → IsGateList P p fs → es ≡ fs

-- the gate list of a port of a checked plan ends with the classes 0 to 6 open
abbrev pub EndsOrdinary : Type 0
EndsOrdinary = (c : CheckedPlan) (p : ℕ) (es : List GateEntry) → IsGateList (checked_plan c) p es → (slice_index_or es (length es - 1) no_entry).octet ≡ 0x7F
