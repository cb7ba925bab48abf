-- What a network is made of, by its meaning: plans that passed the check, clocks within their error, and selections that keep their laws.
use Rattle.std.specs.Prelude.{◌≡◌, ℕ, ◌^◌, ◌<◌, ◌≤◌, length, Option}
use Rattle.schedule.specs.Plan.{Plan, HasHop, flow_count, hop_count, release_of, port_at}
use Rattle.schedule.specs.Rules.{Good}
use Rattle.egress.specs.Mask.{In, Picks}
use Rattle.egress.specs.Times.{Near}

-- how many ports a plan has
abbrev pub port_count : Plan → ℕ
port_count P = length P.ports

-- a plan as the check leaves it: it keeps the six rules, each flow is released within the cycle and has a hop, and a route crosses ports of the plan, none twice
pub record Fit (P : Plan) : Type 0 where
  pub good : Good P
  pub released : (f : ℕ) → f < flow_count P → release_of P f < P.cycle
  pub routed : (f : ℕ) → f < flow_count P → 0 < hop_count P f
  pub present : (f h : ℕ) → HasHop P f h → port_at P f h < port_count P
  pub once : (f h k : ℕ) → HasHop P f h → HasHop P f k → port_at P f h ≡ port_at P f k → h ≡ k

-- the clock of each port, by what it reads at each true tick, is off by at most the error
abbrev pub ClocksNear : ℕ → (ℕ → ℕ → ℕ) → Type 0
ClocksNear error reading = (p t : ℕ) → error ≤ t → t ≤ 2 ^ 48 → Near error t (reading p t)

-- the meaning of a selection with states S: the classes that it holds back, its reply to each available set, and its state after a pass
pub record Meaning (S : Type 0) : Type 0 where
  pub held : S → ℕ
  pub pick : S → ℕ → Option ℕ
  pub passed : S → Option ℕ → ℕ → ℕ → S

-- the meaning with these parts
abbrev pub meaning : {S : Type 0} → (S → ℕ) → (S → ℕ → Option ℕ) → (S → Option ℕ → ℕ → ℕ → S) → Meaning S
meaning held pick passed = record { held = held; pick = pick; passed = passed }

-- its laws: class 7 is never held back, and a reply is an available class that is not held back, or none if there is none
pub record Lawful {S : Type 0} (K : Meaning S) : Type 0 where
  pub spares : (s : S) → In 7 (K.held s) → ⊥
  pub picks : (s : S) → Picks (K.held s) (K.pick s)
