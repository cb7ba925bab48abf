-- Making the gate list of a port: the reply, and the list.
use Rattle.std.specs.Prelude.{◌≡◌, ℕ, length, None, Ok, Err, vec_items, Option, Result, nat_lt}
use Rattle.schedule.specs.Limits.{unless}
use Rattle.schedule.specs.Plan.{Plan}
use Rattle.gates.specs.declared.list.GateList.{GateList}
use Rattle.gates.specs.declared.refusal.GateRefusal.{GateRefusal}
use Rattle.gates.specs.Numbers.{gate_number}
use Rattle.gates.specs.Lists.{IsGateList}

-- the number with which a gate list is refused, if it is
abbrev pub gates_refused : Plan → ℕ → Option ℕ
gates_refused P p = unless (nat_lt p (length P.ports)) 21 None

-- the list is that of port p of plan P
abbrev pub Lists : Plan → ℕ → GateList → Type 0
Lists P p l = (l.cycle ≡ P.cycle) × IsGateList P p (vec_items l.entries)

-- the reply is the gate list of the port, or the number by which it is refused; it lacks memory only where nothing else refuses it
abbrev pub Makes : Plan → ℕ → Result GateList GateRefusal → Type 0
Makes P p (Ok l) = (gates_refused P p ≡ None) × Lists P p l
Makes P p (Err e) = gate_number e ≡ gates_refused P p
