-- The raising of offsets: what each step keeps on the way to the least that there are.
use Rattle.std.specs.Prelude.{◌≡◌, ℕ, ◌+◌, ◌-◌, ◌<◌, ◌≤◌, Bool, true, List, [], ◌∷◌, map, take, Some, None, Ok, Err, Option, Result, slice_index_or, slice_set}
use Rattle.schedule.specs.declared.draft.Draft.{Draft}
use Rattle.schedule.specs.declared.refusal.FlowRefusal.{FlowRefusal}
use Rattle.schedule.specs.declared.tables.Flow.{Flow}
use Rattle.schedule.specs.declared.tables.Window.{Window}
use Rattle.schedule.specs.Numbers.{flow_number}
use Rattle.schedule.specs.Plan.{Plan, no_window, flow_at, hop_count, port_at, offset_at}
use Rattle.schedule.specs.Rules.{FlowKeeps, Apart}
use Rattle.schedule.specs.Held.{TablesHeld, FlowsHeld, StretchesHeld, OrderHeld, WindowsHeld, RoutesHeld}
use Rattle.schedule.specs.Drafts.{plan_of}
use Rattle.schedule.specs.Placing.{NoneFit, place_refused, Places}

-- the plan with another window table
abbrev pub retimed : Plan → List Window → Plan
retimed P windows = record { cycle = P.cycle; error = P.error; extension = P.extension; ports = P.ports; flows = P.flows; windows = windows }

-- the plan with only so many of its flows and windows
abbrev pub cut_back : Plan → ℕ → ℕ → Plan
cut_back P flows windows = record { cycle = P.cycle; error = P.error; extension = P.extension; ports = P.ports; flows = take flows P.flows; windows = take windows P.windows }

-- another table with the same ports, alike up to a stretch of hops, and in it no window earlier
pub record Later (first hops : ℕ) (windows others : List Window) : Type 0 where
  pub alike : take first others ≡ take first windows
  pub ports : map (λ (w : Window). w.port) others ≡ map (λ (w : Window). w.port) windows
  pub later : (h : ℕ) → h < hops → (slice_index_or windows (first + h) no_window).offset ≤ (slice_index_or others (first + h) no_window).offset

-- the windows of lower flows stand before those of flow f
abbrev pub Behind : Plan → ℕ → Type 0
Behind P f = (g : ℕ) → g < f → (flow_at P g).first + hop_count P g ≤ (flow_at P f).first

-- other windows with which flow f keeps the rules, none of its own earlier
abbrev pub Solves : Plan → ℕ → List Window → Type 0
Solves P f others = Later (flow_at P f).first (hop_count P f) P.windows others × FlowKeeps (retimed P others) f

-- the offset of hop h is below what it is in every solution
pub record MustRise (P : Plan) (f h to : ℕ) : Type 0 where
  pub hop_in : h < hop_count P f
  pub rises : offset_at P f h < to
  pub least : (others : List Window) → Solves P f others → to ≤ offset_at (retimed P others) f h

-- there is no solution
abbrev pub Hopeless : Plan → ℕ → Type 0
Hopeless P f = (others : List Window) → Solves P f others → ⊥

-- a window of a lower flow at the same port, from which the window of hop h of flow f does not stand apart
pub record TooClose (P : Plan) (f h g k : ℕ) : Type 0 where
  pub lower : g < f
  pub hop_in : k < hop_count P g
  pub one_port : port_at P g k ≡ port_at P f h
  pub close : Apart P f h g k → ⊥

-- raising ends at the least solution, or finds that there is none
pub record Raises (P : Plan) (f : ℕ) (found : Bool) (after : Plan) : Type 0 where
  pub only_windows : after ≡ retimed P after.windows
  pub no_earlier : Later (flow_at P f).first (hop_count P f) P.windows after.windows
  pub solves : found ≡ true → FlowKeeps after f
  pub least : (others : List Window) → Solves P f others → (found ≡ true) × Later (flow_at P f).first (hop_count P f) after.windows others

-- the window table with another offset at one place
abbrev pub set_offset : List Window → ℕ → ℕ → List Window
set_offset windows i to = slice_set windows i (record { port = (slice_index_or windows i no_window).port; offset = to })

-- what is left for all offsets to rise in, up to the cycle
abbrev pub rise_left : ℕ → List Window → ℕ
rise_left cycle [] = 0
rise_left cycle (w ∷ ws) = (cycle - w.offset) + rise_left cycle ws

-- the tables are such as a draft keeps
abbrev pub TablesKeep : ℕ → ℕ → List Flow → List Window → Type 0
TablesKeep cycle ports flows windows = TablesHeld flows windows × FlowsHeld cycle flows × StretchesHeld flows windows × WindowsHeld cycle ports windows × RoutesHeld ports flows windows × OrderHeld flows

-- a flow is kept as placing keeps it, or there are no offsets and the plan is as it was; a limit that refuses it leaves the draft the same value
abbrev pub KeepsLeast : Draft → ℕ → ℕ → ℕ → List ℕ → Result (Option ℕ) FlowRefusal → Draft → Type 0
KeepsLeast d release octets deadline route (Ok (Some f)) after = Places d release octets deadline route (Ok f) after
KeepsLeast d release octets deadline route (Ok None) after =
    (place_refused (plan_of d) release octets deadline route ≡ None)
    × NoneFit (plan_of d) release octets deadline route
    × (plan_of after ≡ plan_of d)
KeepsLeast d release octets deadline route (Err e) after =
    (place_refused (plan_of d) release octets deadline route ≡ Some (flow_number e))
    × (after ≡ d)
