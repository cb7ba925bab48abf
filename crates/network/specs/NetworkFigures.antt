-- The worked example in a network: the plan of one flow, run from base 1,000 by strict priority, and what the calls reply.
use Rattle.std.specs.Prelude.{◌≡◌, ℕ, ◌+◌, ◌-◌, false, cond, [], ◌∷◌, Some, None, ◌==◌}
use Rattle.gates.specs.Figures.{Figures, one_flow}
use Rattle.egress.specs.Mask.{highest}
use Rattle.network.specs.Lawful.{Fit, ClocksNear, Meaning, meaning, Lawful}
use Rattle.network.specs.Calls.{Network, offer, queue, read_record, read_wire, advance, change, Reply, accepted, queued, recorded, carries, now_is, changes_at, refused, replies}
use Rattle.network.specs.Tables.{Tables, tables, new_tables}

-- strict priority: the highest available class, none held back; it has one state
abbrev pub strict : Meaning (Unit {0})
strict = meaning (λ _. 0) (λ _ a. highest a) (λ s _ _ _. s)

-- every clock reads the true tick
abbrev pub exact : ℕ → ℕ → ℕ
exact p t = t

-- the clock of port 1 is so much ahead, the other exact
abbrev pub ahead_by : ℕ → ℕ → ℕ → ℕ
ahead_by d p t = cond (p == 1) (t + d) t

-- the clock of port 1 is so much behind, the other exact
abbrev pub behind_by : ℕ → ℕ → ℕ → ℕ
behind_by d p t = cond (p == 1) (t - d) t

-- the network just started with the plan of one flow
abbrev pub started : Network (Tables (Unit {0}))
started = new_tables one_flow 1000 (tt ∷ tt ∷ [])

-- with these clocks the frame offered at 1,000 is delivered with this transit
abbrev pub Transit : (ℕ → ℕ → ℕ) → ℕ → Type 0
Transit ρ x = replies (tables ρ strict) (offer 0 ∷ advance 371 ∷ read_record 0 ∷ []) started
    ≡ accepted ∷ now_is 1371 ∷ recorded (record { accepted = 1; delivered = 1; transits = Some (record { least = x; greatest = x }); under_way = false }) ∷ []

-- an ordinary frame of 1,522 octets that is queued at port 0 at 9,458, its wire time before the guard band of the next cycle, starts then
abbrev pub StartsAtOnce : Type 0
StartsAtOnce = replies (tables exact strict) (advance 8458 ∷ queue 0 3 1522 7 ∷ advance 1 ∷ read_wire 0 ∷ []) started
    ≡ now_is 9458 ∷ queued ∷ now_is 9459 ∷ carries (Some (3, 10999)) ∷ []

-- queued a tick later it waits until the window has ended, and starts at 11,160
abbrev pub StartsLater : Type 0
StartsLater = replies (tables exact strict) (advance 8459 ∷ queue 0 3 1522 7 ∷ advance 1701 ∷ read_wire 0 ∷ advance 1 ∷ read_wire 0 ∷ []) started
    ≡ now_is 9459 ∷ queued ∷ now_is 11160 ∷ carries None ∷ now_is 11161 ∷ carries (Some (3, 12701)) ∷ []

-- after k ticks without a frame now is t, and a change to the same plan with base A has this reply
abbrev pub ChangeAt : ℕ → ℕ → ℕ → Reply → Type 0
ChangeAt k t A r = replies (tables exact strict) (advance k ∷ change one_flow A ∷ []) started ≡ now_is t ∷ r ∷ []

-- what the calls reply in the example, and that the guarantee speaks of it
pub record NetworkFigures : Type 0 where
  -- the plan, its certificate and gate list, and its placing
  pub planning : Figures
  -- transits on exact clocks, and with port 1 ten ahead and ten behind
  pub transit_exact : Transit exact 360
  pub transit_ahead : Transit (ahead_by 10) 350
  pub transit_behind : Transit (behind_by 10) 370
  -- an ordinary frame looks ahead
  pub starts_at_once : StartsAtOnce
  pub starts_later : StartsLater
  -- a change to the same plan with base 1,150 is accepted at 9,438, for 11,150, and a tick later it is refused
  pub change_in_time : ChangeAt 8438 9438 1150 (changes_at 11150)
  pub change_too_late : ChangeAt 8439 9439 1150 (refused 64)
  -- at 5,000 one with base 21,200 is accepted, which cuts a cycle short after the 200 ticks of the extension, and with 21,201 it is refused
  pub change_within : ChangeAt 4000 5000 21200 (changes_at 21200)
  pub change_beyond : ChangeAt 4000 5000 21201 (refused 63)
  -- the plan, the clocks and strict priority are such as the guarantee supposes
  pub plan_fit : Fit one_flow
  pub exact_near : ClocksNear 10 exact
  pub ahead_near : ClocksNear 10 (ahead_by 10)
  pub behind_near : ClocksNear 10 (behind_by 10)
  pub strict_lawful : Lawful strict
