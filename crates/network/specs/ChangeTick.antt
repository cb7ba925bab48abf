-- The tick of a change, as a law above its arithmetic.
use Rattle.std.specs.Prelude.{◌≡◌, ℕ, ◌+◌, ◌*◌, ◌<◌, ◌≤◌}
use Rattle.schedule.specs.Plan.{Plan}
use Rattle.network.specs.Calls.{change_tick}

-- T is the tick of a change that is called for at tick t, of a plan with that cycle and with A named as its base: A and some whole cycles, not before t, and the least of those
pub record LeastChange (t cycle A T : ℕ) : Type 0 where
  pub cycles : ℕ
  pub whole : T ≡ A + cycles * cycle
  pub not_before : t ≤ T
  pub from_base : A ≤ T
  pub least : (M : ℕ) → t ≤ A + M * cycle → T ≤ A + M * cycle

-- the tick of every change is that
abbrev pub ChangeTickLaw : Type 0
ChangeTickLaw = (t : ℕ) (Q : Plan) (A : ℕ) → 0 < Q.cycle → LeastChange t Q.cycle A (change_tick t Q A)
