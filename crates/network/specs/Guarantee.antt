-- What is promised of every run: punctual, clear windows, isolated.
use Rattle.std.specs.Prelude.{◌≡◌, ℕ, suc, ◌+◌, ◌^◌, ◌<◌, ◌≤◌, Bool, true, false, cond, List, [], ◌∷◌, map, ◌==◌, ◌≢◌}
use Rattle.std.specs.List.{AllByRecursion}
use Rattle.schedule.specs.Plan.{Plan, flow_count, hop_count, release_of, offset_at, port_at, wire_of, delay_of, certificate_of}
use Rattle.gates.specs.Timetable.{Transition, steady, pending, replaced, hold_from, timetable}
use Rattle.network.specs.declared.flight.Flight.{Flight}
use Rattle.network.specs.declared.flight.Flight.TheVariants.{Idle, Waiting, Moving}
use Rattle.network.specs.Windows.{Busy}
use Rattle.network.specs.Lawful.{Fit, ClocksNear, Meaning, Lawful, port_count}
use Rattle.network.specs.Calls.{Network, Call, offer, queue, read_record, read_wire, advance, change, settle, Reply, ticks, run, replies}
use Rattle.network.specs.Functions.{Core, record_of, functions, new}

-- at every tick from W less the error up to before t the clock reads less than W
abbrev pub NotYet : ℕ → (ℕ → ℕ) → ℕ → ℕ → Type 0
NotYet error clock W t = (s : ℕ) → W ≤ s + error → s < t → clock s < W

-- t is the first tick, from W less the error on, at which the clock reads W or later
pub record First (error : ℕ) (clock : ℕ → ℕ) (W t : ℕ) : Type 0 where
  pub from : W ≤ t + error
  pub reads : W ≤ clock t
  pub not_before : NotYet error clock W t

-- a frame of flow f released at u is delivered at a: when the clock of its last port first reads the begin of its window, and wire time and delay after that; and its transit is within the certificate
pub record OnTime (P : Plan) (ρ : ℕ → ℕ → ℕ) (f u a : ℕ) : Type 0 where
  pub hop : ℕ
  pub window : ℕ
  pub start : ℕ
  pub last : suc hop ≡ hop_count P f
  pub opens : window + release_of P f ≡ u + offset_at P f hop
  pub first : First P.error (ρ (port_at P f hop)) window start
  pub arrival : a ≡ start + wire_of P f + delay_of P (port_at P f hop)
  pub least : u + (certificate_of P f).0 ≤ a
  pub greatest : a ≤ u + (certificate_of P f).1

-- the release tick of the frame that is in the network, before those of others
abbrev pub due : Flight → List ℕ → List ℕ
due Idle l = l
due (Waiting h u) l = u ∷ l
due (Moving h u a) l = u ∷ l

-- a frame that is in the network at tick t has not passed the greatest transit of its certificate
abbrev pub InTime : Plan → ℕ → ℕ → Flight → Type 0
InTime P t f Idle = Unit {0}
InTime P t f (Waiting h u) = t ≤ u + (certificate_of P f).1
InTime P t f (Moving h u a) = t ≤ u + (certificate_of P f).1

-- flow f is punctual: each frame accepted is the one in the network or has been delivered, once; each was on time; and the one in the network still can be
pub record Punctual (P : Plan) (ρ : ℕ → ℕ → ℕ) {S : Type 0} (n : Core S) (f : ℕ) : Type 0 where
  pub each_once : n.accepted f ≡ due (n.flight f) (map (λ (d : ℕ × ℕ). d.0) (n.arrived f))
  pub on_time : AllByRecursion (λ (d : ℕ × ℕ). OnTime P ρ f d.0 d.1) (n.arrived f)
  pub in_time : InTime P n.now f (n.flight f)

-- the windows are clear: no port has a frame of an ordinary class on its wire at a busy tick, from the tick run last on
abbrev pub Clear : {S : Type 0} → Network (Core S) → Type 0
Clear n = (p t : ℕ) → p < port_count n.plan → n.core.now ≤ t + 1 → t < (n.core.port p).until → ((n.core.port p).class ≢ 7) → Busy n.plan n.base n.transition p t → ⊥

-- the tick after which the plan is held, and each one up to the change, leaves nothing of the plan in the network, and each of its flows punctual: so nothing is lost when the flows of the next plan begin afresh
abbrev pub HandedOver : (ℕ → ℕ → ℕ) → {S : Type 0} → Meaning S → Plan → ℕ → Transition → Core S → Type 0
HandedOver ρ K P B steady n = Unit {0}
HandedOver ρ K P B (pending Q T) n = hold_from P B T ≤ n.now + 1 → n.now < 2 ^ 48 → (f : ℕ) → f < flow_count P
    → let m = (functions ρ K).ticked P (timetable P B (pending Q T)) n in (m.flight f ≡ Idle) × Punctual P ρ m f
HandedOver ρ K P B (replaced O A) n = Unit {0}

-- what is promised of each state of a network
pub record Promised (ρ : ℕ → ℕ → ℕ) {S : Type 0} (K : Meaning S) (n : Network (Core S)) : Type 0 where
  pub punctual : (f : ℕ) → f < flow_count n.plan → Punctual n.plan ρ n.core f
  pub clear : Clear n
  pub handed_over : HandedOver ρ K n.plan n.base n.transition n.core

-- a change brings a plan that is fit
abbrev pub BringsFit : Call → Type 0
BringsFit (offer f) = Unit {0}
BringsFit (queue p c octets label) = Unit {0}
BringsFit (read_record f) = Unit {0}
BringsFit (read_wire p) = Unit {0}
BringsFit (advance n) = Unit {0}
BringsFit (change Q A) = Fit Q
BringsFit settle = Unit {0}

-- each change of a list does
abbrev pub AllFit : List Call → Type 0
AllFit cs = AllByRecursion BringsFit cs

-- the calls that are neither ordinary offers nor offers of flows other than f
abbrev pub keeps : ℕ → Call → Bool
keeps f (offer g) = g == f
keeps f (queue p c octets label) = false
keeps f (read_record g) = true
keeps f (read_wire p) = true
keeps f (advance n) = true
keeps f (change Q A) = true
keeps f settle = true

-- a list of calls with the others left out
abbrev pub kept : ℕ → List Call → List Call
kept f [] = []
kept f (c ∷ cs) = cond (keeps f c) (c ∷ kept f cs) (kept f cs)

-- the calls whose answers concern flow f: its offers, its record, time and plan
abbrev pub concerns : ℕ → Call → Bool
concerns f (offer g) = g == f
concerns f (queue p c octets label) = false
concerns f (read_record g) = g == f
concerns f (read_wire p) = false
concerns f (advance n) = true
concerns f (change Q A) = true
concerns f settle = true

-- the replies to those calls
abbrev pub told : ℕ → List Call → List Reply → List Reply
told f [] rs = []
told f (c ∷ cs) [] = []
told f (c ∷ cs) (r ∷ rs) = cond (concerns f c) (r ∷ told f cs rs) (told f cs rs)

-- two networks are alike for flow f: the plan in force, the flow's frame, and its record, which is a function of its two logs
pub record Alike {S R : Type 0} (f : ℕ) (n : Network (Core S)) (m : Network (Core R)) : Type 0 where
  pub plan : n.plan ≡ m.plan
  pub flight : n.core.flight f ≡ m.core.flight f
  pub accepted : n.core.accepted f ≡ m.core.accepted f
  pub arrived : n.core.arrived f ≡ m.core.arrived f
  pub tells : record_of n.core f ≡ record_of m.core f

-- what is promised of networks started with plan P at base B with clocks that read ρ, with selections of two kinds
pub record Guaranteed (P : Plan) (B : ℕ) (ρ : ℕ → ℕ → ℕ) {S R : Type 0} (K : Meaning S) (L : Meaning R) (s : ℕ → S) (r : ℕ → R) : Type 0 where
  -- after every list of calls, and each of the ticks of an advance after it
  pub always : (cs : List Call) → AllFit cs → (k : ℕ) → (run (functions ρ K) cs (new P B s)).core.now + k ≤ 2 ^ 48
      → Promised ρ K (ticks (functions ρ K) k (run (functions ρ K) cs (new P B s)))
  -- two lists that differ only in ordinary offers and offers of other flows tell flow f the same, and leave it alike
  pub isolated : (cs ds : List Call) → AllFit cs → AllFit ds → (f : ℕ) → kept f cs ≡ kept f ds
      → (told f cs (replies (functions ρ K) cs (new P B s)) ≡ told f ds (replies (functions ρ L) ds (new P B r)))
      × Alike f (run (functions ρ K) cs (new P B s)) (run (functions ρ L) ds (new P B r))

-- the guarantee, for selections with states S and R: for every plan that passed the check, every base and all clocks that a start accepts, and all lawful selections
abbrev pub Guarantee : Type 0 → Type 0 → Type 0
Guarantee S R = (P : Plan) (B : ℕ) (ρ : ℕ → ℕ → ℕ) → Fit P → P.error ≤ B → B ≤ 2 ^ 47 → ClocksNear P.error ρ
    → (K : Meaning S) (L : Meaning R) → Lawful K → Lawful L → (s : ℕ → S) (r : ℕ → R) → Guaranteed P B ρ K L s r
