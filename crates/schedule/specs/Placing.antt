-- Placing: the least offsets with which a new flow keeps the rules beside the old ones.
use Rattle.std.specs.Prelude.{◌≡◌, ℕ, ◌-◌, ◌<◌, min, ◌⊎◌, List, [], ◌∷◌, length, Some, None, Ok, Err, Option, Result, nat_lt, slice_index}
use Rattle.schedule.specs.declared.draft.Draft.{Draft}
use Rattle.schedule.specs.declared.refusal.FlowRefusal.{FlowRefusal}
use Rattle.schedule.specs.Numbers.{flow_number}
use Rattle.schedule.specs.Limits.{unless, flow_allowed, route_allowed}
use Rattle.schedule.specs.Plan.{Plan, flow_count}
use Rattle.schedule.specs.Rules.{FlowKeeps}
use Rattle.schedule.specs.Drafts.{plan_of, with_flow}

-- there is an offset for each hop, and with them the new flow keeps the six rules: rule 6 sets it against the old flows, and rules that those break among themselves do not count
abbrev pub FitsBeside : Plan → ℕ → ℕ → ℕ → List ℕ → List ℕ → Type 0
FitsBeside P release octets deadline route offsets = (length offsets ≡ length route) × FlowKeeps (with_flow P release octets deadline route offsets) (flow_count P)

-- of two lists, the one that is less at the first place where they differ
abbrev pub Earlier : List ℕ → List ℕ → Type 0
Earlier [] ys = ⊥
Earlier (x ∷ xs) [] = ⊥
Earlier (x ∷ xs) (y ∷ ys) = (x < y) ⊎ ((x ≡ y) × Earlier xs ys)

-- the offset of the last hop
abbrev pub last_offset : List ℕ → ℕ
last_offset offsets = slice_index offsets (length offsets - 1)

-- the order among offsets: the least at the last hop first, then at hop 0, at hop 1, and so on
abbrev pub Before : List ℕ → List ℕ → Type 0
Before xs ys = Earlier (last_offset xs ∷ xs) (last_offset ys ∷ ys)

-- the offsets that placing chooses: they fit, and no others that fit come before them
pub record LeastPlacement (P : Plan) (release octets deadline : ℕ) (route offsets : List ℕ) : Type 0 where
  pub fits : FitsBeside P release octets deadline route offsets
  pub least : (others : List ℕ) → FitsBeside P release octets deadline route others → Before others offsets → ⊥

-- no offsets fit
abbrev pub NoneFit : Plan → ℕ → ℕ → ℕ → List ℕ → Type 0
NoneFit P release octets deadline route = (offsets : List ℕ) → FitsBeside P release octets deadline route offsets → ⊥

-- the number with which the limits refuse a flow to be placed, if they do
abbrev pub place_refused : Plan → ℕ → ℕ → ℕ → List ℕ → Option ℕ
place_refused P release octets deadline route =
    unless (nat_lt (flow_count P) 16) 1 (
    unless (flow_allowed P.cycle release octets deadline) 2 (
    unless (route_allowed (length P.ports) route) 3 None))

-- the number of a refusal: that of the limits, or 4 where they allow the flow and no offsets fit
abbrev pub RefusalIs : Option ℕ → Type 0 → ℕ → Type 0
RefusalIs (Some n) none_fit number = number ≡ n
RefusalIs None none_fit number = (number ≡ 4) × none_fit

-- placing replies the number of the flow, which the draft then holds at the least offsets there are; a refusal leaves the plan as it was
-- (the memory that a draft has in reserve is no part of its plan)
abbrev pub Places : Draft → ℕ → ℕ → ℕ → List ℕ → Result ℕ FlowRefusal → Draft → Type 0
Places d release octets deadline route (Ok f) after =
    (place_refused (plan_of d) release octets deadline route ≡ None)
    × (f ≡ flow_count (plan_of d))
    × ((offsets : List ℕ) × LeastPlacement (plan_of d) release octets deadline route offsets × (plan_of after ≡ with_flow (plan_of d) release octets deadline route offsets))
Places d release octets deadline route (Err e) after =
    RefusalIs (place_refused (plan_of d) release octets deadline route) (NoneFit (plan_of d) release octets deadline route) (flow_number e)
    × (plan_of after ≡ plan_of d)

-- hop by hop, the lesser of two offsets
abbrev pub minima : List ℕ → List ℕ → List ℕ
minima [] ys = []
minima (x ∷ xs) [] = []
minima (x ∷ xs) (y ∷ ys) = min x y ∷ minima xs ys

-- a law of the rules: of two ways to place a flow, the lesser offset at each hop is a way too; so what is least is least at every hop
abbrev pub MinimumFits : Type 0
MinimumFits =
    (d : Draft) (release octets deadline : ℕ) (route xs ys : List ℕ)
    → FitsBeside (plan_of d) release octets deadline route xs
    → FitsBeside (plan_of d) release octets deadline route ys
    → FitsBeside (plan_of d) release octets deadline route (minima xs ys)
