-- The invariant of a run.
use Rattle.std.proofs.Common.{◌≡◌, ℕ, ◌+◌, ◌^◌, ◌<◌, ◌≤◌, ◌⊎◌, List, [], ◌∷◌, map, get_or}
use Rattle.std.specs.List.{AllByRecursion}
use Rattle.schedule.specs.Plan.{Plan, flow_count, hop_count, release_of, port_at, offset_at, wire_of, delay_of, early_at}
use Rattle.gates.specs.Timetable.{Transition}
use Rattle.egress.specs.declared.ordinary.Frame.{Frame}
use Rattle.network.specs.declared.flight.Flight.{Flight}
use Rattle.network.specs.declared.flight.Flight.TheVariants.{Idle, Waiting, Moving}
use Rattle.network.specs.Windows.{cycle_begin, Occurs, Busy}
use Rattle.network.specs.Functions.{Core}
use Rattle.network.specs.Guarantee.{NotYet, First, OnTime, due}
use Rattle.network.proofs.Facts.{Counts}

module _ (P : Plan) (B : ℕ) (tr : Transition) (ρ : ℕ → ℕ → ℕ) where
  -- a frame that waits at hop h at tick t: reached, and not yet started
  pub record Waits (t f h u : ℕ) : Type 0 where
    pub cycles : ℕ
    pub counts : Counts P B tr cycles
    pub hop_in : h < hop_count P f
    pub released : u ≡ cycle_begin P B cycles + release_of P f
    pub reached : cycle_begin P B cycles + early_at P f h ≤ t + P.error
    pub not_yet : NotYet P.error (ρ (port_at P f h)) (cycle_begin P B cycles + offset_at P f h) t

  -- a frame under way from hop h: it started before tick t, and comes at t' or later
  pub record Moves (t t' f h u a : ℕ) : Type 0 where
    pub cycles : ℕ
    pub counts : Counts P B tr cycles
    pub start : ℕ
    pub hop_in : h < hop_count P f
    pub released : u ≡ cycle_begin P B cycles + release_of P f
    pub first : First P.error (ρ (port_at P f h)) (cycle_begin P B cycles + offset_at P f h) start
    pub started : start < t
    pub arrives : a ≡ start + wire_of P f + delay_of P (port_at P f h)
    pub yet : t' ≤ a

  abbrev pub FlightOk : ℕ → ℕ → ℕ → Flight → Type 0
  FlightOk t t' f Idle = Unit {0}
  FlightOk t t' f (Waiting h u) = Waits t f h u
  FlightOk t t' f (Moving h u a) = Moves t t' f h u a

  abbrev pub WaitsAt : ℕ → ℕ → Flight → Type 0
  WaitsAt p f Idle = ⊥
  WaitsAt p f (Waiting h u) = port_at P f h ≡ p
  WaitsAt p f (Moving h u a) = ⊥

  -- line 7 of port p: nothing and nobody waits there, or the one flow that does
  abbrev pub LineOk : (ℕ → Flight) → ℕ → List ℕ → Type 0
  LineOk fl p l = ((l ≡ []) × ((f : ℕ) → f < flow_count P → WaitsAt p f (fl f) → ⊥))
      ⊎ ((f : ℕ) × (f < flow_count P) × WaitsAt p f (fl f) × (l ≡ f ∷ []))

  -- the wire of port p carries class c until e
  pub record WireOk (t p c e : ℕ) : Type 0 where
    pub sched : c ≡ 7 → t < e → (W : ℕ) × (w : ℕ) × Occurs P B tr p W w × (s : ℕ) × First P.error (ρ p) W s × (s < t) × (e ≤ s + w)
    pub clear : (c ≡ 7 → ⊥) → (s : ℕ) → t ≤ s + 1 → s < e → Busy P B tr p s → ⊥
    pub short : (c ≡ 7 → ⊥) → e ≤ t + 1542

  -- no frame of a line is longer than a frame may be
  abbrev pub Short : List Frame → Type 0
  Short l = AllByRecursion (λ (x : Frame). x.octets ≤ 1522) l

  pub record Inv {S : Type 0} (n : Core S) : Type 0 where
    pub base : B ≤ n.now
    pub top : n.now ≤ 2 ^ 48
    pub flights : (f : ℕ) → f < flow_count P → FlightOk n.now n.now f (n.flight f)
    pub lines : (p : ℕ) → LineOk n.flight p (n.port p).scheduled
    pub wires : (p : ℕ) → WireOk n.now p (n.port p).class (n.port p).until
    pub small : (p c : ℕ) → Short (get_or (n.port p).ordinary c [])
    pub absent : (f : ℕ) → flow_count P ≤ f → n.flight f ≡ Idle
    pub once : (f : ℕ) → f < flow_count P → n.accepted f ≡ due (n.flight f) (map (λ (d : ℕ × ℕ). d.0) (n.arrived f))
    pub on_time : (f : ℕ) → f < flow_count P → AllByRecursion (λ (d : ℕ × ℕ). OnTime P ρ f d.0 d.1) (n.arrived f)
