-- Frames and ports as functions, with a log of each flow: what the guarantee speaks of.
use Rattle.std.specs.Prelude.{ℕ, ◌+◌, ◌-◌, cond, List, [], ◌∷◌, length, Some, None, Option, ◌==◌, nat_lt}
use Rattle.schedule.specs.Plan.{Plan, flow_count, port_at}
use Rattle.gates.specs.Timetable.{steady}
use Rattle.network.specs.declared.flight.Flight.{Flight}
use Rattle.network.specs.declared.flight.Flight.TheVariants.{Idle, Waiting}
use Rattle.network.specs.declared.row.Transits.{Transits}
use Rattle.network.specs.declared.row.FlowRecord.{FlowRecord}
use Rattle.network.specs.Lawful.{Meaning, port_count}
use Rattle.network.specs.Flows.{landed, arrives, span, departed, is_under_way, widened}
use Rattle.network.specs.Ports.{Port, empty_port, joined_by, joined, chosen, sent, flow_sent, passed, with_frame, line_length, carried}
use Rattle.network.specs.Calls.{Machine, Network}

-- now, the frame of each flow, each port, and of each flow since its plan came into force: the release ticks of the frames accepted, and the release and reach ticks of the frames delivered, the last first
pub record Core (S : Type 0) : Type 0 where
  pub now : ℕ
  pub flight : ℕ → Flight
  pub port : ℕ → Port S
  pub accepted : ℕ → List ℕ
  pub arrived : ℕ → List (ℕ × ℕ)

-- a function with another value at k
abbrev pub put : {X : Type 0} → ℕ → X → (ℕ → X) → ℕ → X
put k x f j = cond (j == k) x (f j)

-- the least and the greatest transit of the frames delivered
abbrev pub extremes : List (ℕ × ℕ) → Option Transits
extremes [] = None
extremes (d ∷ l) = Some (widened (extremes l) (d.1 - d.0))

-- the record of flow f
abbrev pub record_of : {S : Type 0} → Core S → ℕ → FlowRecord
record_of n f = record { accepted = length (n.accepted f); delivered = length (n.arrived f); transits = extremes (n.arrived f); under_way = is_under_way (n.flight f) }

-- port p after step 1
abbrev pub after_joining : {S : Type 0} → Plan → Core S → ℕ → Port S
after_joining P n p = joined P n.now (flow_count P) n.flight p (n.port p)

-- the class that port p chooses, with the octets and the clock of each port; a port that is not there chooses none
abbrev pub choice : {S : Type 0} → (ℕ → ℕ → ℕ) → Meaning S → Plan → (ℕ → ℕ → ℕ) → Core S → ℕ → Option ℕ
choice ρ K P σ n p = cond (nat_lt p (port_count P)) (chosen P (σ p) K n.now (ρ p n.now) (after_joining P n p)) None

-- one tick, with the clock of each port, the meaning of the selections, a plan, and the octets of each port
unfoldable pub ticked : {S : Type 0} → (ℕ → ℕ → ℕ) → Meaning S → Plan → (ℕ → ℕ → ℕ) → Core S → Core S
ticked ρ K P σ n =
    let t = n.now in
    record {
      now = t + 1;
      flight = λ f. departed P t (λ p. flow_sent (after_joining P n p) (choice ρ K P σ n p)) f (landed P t f (n.flight f));
      port = λ p. passed P (σ p) K t (ρ p t) (sent P t (after_joining P n p) (choice ρ K P σ n p));
      accepted = n.accepted;
      arrived = λ f. cond (arrives P t f (n.flight f)) (span (n.flight f) ∷ n.arrived f) (n.arrived f);
    }

-- an accepted scheduled frame waits in line 7 of its first port
unfoldable pub offered : {S : Type 0} → Plan → ℕ → Core S → Core S
offered P f n = let p = port_at P f 0 in record {
  now = n.now;
  flight = put f (Waiting 0 n.now) n.flight;
  port = put p (joined_by (f ∷ []) (n.port p)) n.port;
  accepted = put f (n.now ∷ n.accepted f) n.accepted;
  arrived = n.arrived;
}

-- the flows of a new plan begin with no frame and an empty record
unfoldable pub afresh : {S : Type 0} → Core S → Core S
afresh n = record { now = n.now; flight = λ _. Idle; port = n.port; accepted = λ _. []; arrived = λ _. [] }

-- the calls see them so
abbrev pub functions : {S : Type 0} → (ℕ → ℕ → ℕ) → Meaning S → Machine (Core S)
functions ρ K = record {
  now = λ n. n.now;
  flight = λ n. n.flight;
  tells = record_of;
  queued = λ n p c. line_length c (n.port p);
  wire = λ n p. carried n.now (n.port p);
  ticked = ticked ρ K;
  offered = offered;
  lined = λ p c frame n. record { now = n.now; flight = n.flight; port = put p (with_frame c frame (n.port p)) n.port; accepted = n.accepted; arrived = n.arrived };
  afresh = λ _ n. afresh n;
}

-- a network just started, with the selection of each port
abbrev pub new : {S : Type 0} → Plan → ℕ → (ℕ → S) → Network (Core S)
new P B s = record { plan = P; base = B; transition = steady; core = record { now = B; flight = λ _. Idle; port = λ p. empty_port (s p); accepted = λ _. []; arrived = λ _. [] } }
