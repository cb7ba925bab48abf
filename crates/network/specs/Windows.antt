-- Windows in true time: each window of a plan comes once a cycle, and the ticks around it are busy.
use Rattle.std.specs.Prelude.{◌≡◌, ℕ, ◌+◌, ◌*◌, ◌<◌, ◌≤◌, ◌⊎◌}
use Rattle.schedule.specs.Plan.{Plan, flow_count, hop_count, port_at, offset_at, wire_of}
use Rattle.gates.specs.Timetable.{Transition, steady, pending, replaced, hold_from}

-- the window of a hop at port p, in one cycle of the plan
pub record Turn (P : Plan) (p : ℕ) : Type 0 where
  pub flow : ℕ
  pub hop : ℕ
  pub cycles : ℕ
  pub flow_in : flow < flow_count P
  pub hop_in : hop < hop_count P flow
  pub at : port_at P flow hop ≡ p

-- the true tick at which that cycle begins, with base B
abbrev pub cycle_begin : Plan → ℕ → ℕ → ℕ
cycle_begin P B n = B + n * P.cycle

-- the true tick at which the window begins
abbrev pub begin_of : (P : Plan) → ℕ → (p : ℕ) → Turn P p → ℕ
begin_of P B p i = cycle_begin P B i.cycles + offset_at P i.flow i.hop

-- at port p a window of plan P begins at the true tick W, for a frame with wire time w
pub record OccursIn (P : Plan) (B p W w : ℕ) : Type 0 where
  pub turn : Turn P p
  pub begins : W ≡ begin_of P B p turn
  pub long : w ≡ wire_of P turn.flow

-- of two plans, Q following P at tick T: the windows of P in cycles that begin before P is held, and all windows of Q
abbrev pub OccursJoint : Plan → ℕ → Plan → ℕ → ℕ → ℕ → ℕ → Type 0
OccursJoint P B Q T p W w = ((i : OccursIn P B p W w) × (cycle_begin P B i.turn.cycles < hold_from P B T)) ⊎ OccursIn Q T p W w

-- the windows of a network with plan P in force
abbrev pub Occurs : Plan → ℕ → Transition → ℕ → ℕ → ℕ → Type 0
Occurs P B steady = OccursIn P B
Occurs P B (pending Q T) = OccursJoint P B Q T
Occurs P B (replaced O A) = OccursJoint O A P B

-- the true tick t is busy at port p: it lies within the clock error of the time that a window has for its frame
abbrev pub Busy : Plan → ℕ → Transition → ℕ → ℕ → Type 0
Busy P B tr p t = (W : ℕ) × (w : ℕ) × Occurs P B tr p W w × (W ≤ t + P.error) × (t < W + w + P.error)
