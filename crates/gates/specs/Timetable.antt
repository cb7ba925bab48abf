-- The timetable of a port: the octet that it follows at each tick that its own clock reads, also while the plan changes.
use Rattle.std.specs.Prelude.{ℕ, zero, suc, ◌+◌, ◌-◌, ◌%◌, Bool, true, cond, ◌&&◌, nat_le}
use Rattle.schedule.specs.Plan.{Plan}
use Rattle.gates.specs.Octets.{octet_at, opens}

-- what stands beside the plan in force: nothing; a plan that is to come into force at tick T; or the plan that was in force before, with its base
pub data Transition : Type 0 where
  steady : Transition
  pending : Plan → ℕ → Transition
  replaced : Plan → ℕ → Transition

-- the tick from which plan P, with base B, is held until tick T: the begin of the cycle in which T falls
abbrev pub hold_from : Plan → ℕ → ℕ → ℕ
hold_from P B T = T - (T - B) % P.cycle

-- one plan with base B: every gate is closed before the base, and from then on the gate list goes round
unfoldable pub cyclic_octet : Plan → ℕ → ℕ → ℕ → ℕ
cyclic_octet P B p l = cond (nat_le B l) (octet_at P p ((l - B) % P.cycle)) 0x00

-- plan P with base B, then plan Q from tick T on; from the last whole cycle before T until T the last octet of P is held
unfoldable pub joint_octet : Plan → ℕ → Plan → ℕ → ℕ → ℕ → ℕ
joint_octet P B Q T p l = cond (nat_le T l) (cyclic_octet Q T p l) (cond (nat_le (hold_from P B T) l) (octet_at P p (P.cycle - 1)) (cyclic_octet P B p l))

-- the octet of port p at its own tick l, with plan P in force and its base B
abbrev pub timetable : Plan → ℕ → Transition → ℕ → ℕ → ℕ
timetable P B steady = cyclic_octet P B
timetable P B (pending Q T) = joint_octet P B Q T
timetable P B (replaced O A) = joint_octet O A P B

-- q holds of each number below n
abbrev pub each : ℕ → (ℕ → Bool) → Bool
each zero q = true
each (suc n) q = q n && each n q

-- by a port's octets the gate of class c is open at each of w ticks from l on
abbrev pub open_for : (ℕ → ℕ) → ℕ → ℕ → ℕ → Bool
open_for octets l c w = each w (λ i. opens (octets (l + i)) c)
