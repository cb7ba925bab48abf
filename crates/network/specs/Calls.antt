-- The calls of a network: what each replies, when it is refused, and what it does. Stated once, over whatever holds the frames and ports.
use Rattle.std.specs.Prelude.{ℕ, zero, suc, ◌+◌, ◌-◌, ◌*◌, ◌/◌, ◌%◌, ◌^◌, Bool, true, false, cond, not, ◌&&◌, List, [], ◌∷◌, length, Some, None, Option, ◌==◌, nat_eq, nat_le, nat_lt}
use Rattle.schedule.specs.Plan.{Plan, flow_count, release_of, delay_of}
use Rattle.schedule.specs.Limits.{unless, within}
use Rattle.gates.specs.Timetable.{Transition, steady, pending, replaced, hold_from, timetable, each}
use Rattle.egress.specs.declared.ordinary.Frame.{Frame}
use Rattle.network.specs.declared.flight.Flight.{Flight}
use Rattle.network.specs.declared.row.FlowRecord.{FlowRecord}
use Rattle.network.specs.Lawful.{port_count}
use Rattle.network.specs.Flows.{released_at}

-- frames and ports, as calls see them: what they read of them, and what they do to them
pub record Machine (X : Type 0) : Type 0 where
  pub now : X → ℕ
  -- of a flow: its frame, and its record
  pub flight : X → ℕ → Flight
  pub tells : X → ℕ → FlowRecord
  -- of a port: how many wait in the line of a class; what its wire carries
  pub queued : X → ℕ → ℕ → ℕ
  pub wire : X → ℕ → Option (ℕ × ℕ)
  -- one tick, by a plan and the timetable of each port
  pub ticked : Plan → (ℕ → ℕ → ℕ) → X → X
  -- the frame of a flow is offered; an ordinary frame joins the line of a port and class
  pub offered : Plan → ℕ → X → X
  pub lined : ℕ → ℕ → Frame → X → X
  -- the flows of a plan begin afresh
  pub afresh : Plan → X → X

-- a network: the plan in force, its base, what stands beside it, and the frames and ports
pub record Network (X : Type 0) : Type 0 where
  pub plan : Plan
  pub base : ℕ
  pub transition : Transition
  pub core : X

-- the calls: a scheduled frame of a flow; an ordinary frame at a port, of a class, with octets and label; the record of a flow; the wire of a port; n ticks; another plan, with its base; settling
pub data Call : Type 0 where
  offer : ℕ → Call
  queue : ℕ → ℕ → ℕ → ℕ → Call
  read_record : ℕ → Call
  read_wire : ℕ → Call
  advance : ℕ → Call
  change : Plan → ℕ → Call
  settle : Call

-- the replies; a refusal has its number
pub data Reply : Type 0 where
  accepted : Reply
  queued : Reply
  recorded : FlowRecord → Reply
  carries : Option (ℕ × ℕ) → Reply
  now_is : ℕ → Reply
  changes_at : ℕ → Reply
  settled : Reply
  refused : ℕ → Reply
  out_of_order : Reply

-- from the tick at which the plan is held to the tick of the change no scheduled frame is accepted
abbrev pub held_at : Plan → ℕ → Transition → ℕ → Bool
held_at P B steady t = false
held_at P B (pending Q T) t = nat_le (hold_from P B T) t
held_at P B (replaced O A) t = false

-- tick t is a release of flow f
abbrev pub is_release : Plan → ℕ → Transition → ℕ → ℕ → Bool
is_release P B tr t f = (t - B) % P.cycle == release_of P f && not (held_at P B tr t)

-- the number with which a scheduled offer at tick t is refused, if it is, with the flow's frame
abbrev pub offer_refused : Plan → ℕ → Transition → ℕ → ℕ → Flight → Option ℕ
offer_refused P B tr t f x =
    unless (nat_lt f (flow_count P)) 41 (
    unless (is_release P B tr t f) 42 (
    unless (not (released_at t x)) 43 None))

-- octets and label of an ordinary frame are within their limits
abbrev pub frame_allowed : ℕ → ℕ → Bool
frame_allowed octets label = within 64 1522 octets && nat_le label 65535

-- an ordinary offer, with the number that wait already
abbrev pub queue_refused : Plan → ℕ → ℕ → ℕ → ℕ → ℕ → Option ℕ
queue_refused P p c octets label waiting =
    unless (nat_lt p (port_count P)) 44 (
    unless (nat_le c 6) 45 (
    unless (frame_allowed octets label) 46 (
    unless (nat_lt waiting 8) 47 None)))

-- reading the record of a flow; the wire of a port
abbrev pub record_refused : Plan → ℕ → Option ℕ
record_refused P f = unless (nat_lt f (flow_count P)) 41 None

-- likewise
abbrev pub wire_refused : Plan → ℕ → Option ℕ
wire_refused P p = unless (nat_lt p (port_count P)) 44 None

-- n ticks from tick t on
abbrev pub advance_refused : ℕ → ℕ → Option ℕ
advance_refused t n =
    unless (nat_le n 1250000) 51 (
    unless (nat_le (t + n) (2 ^ 48)) 52 None)

-- the tick of a change: A if that is not before tick t, else the first of A and whole cycles of the new plan that is not
abbrev pub change_tick : ℕ → Plan → ℕ → ℕ
change_tick t Q A = A + (t - A + (Q.cycle - 1)) / Q.cycle * Q.cycle

-- two plans are for the same links and clocks
abbrev pub same_links : Plan → Plan → Bool
same_links P Q = port_count Q == port_count P && (Q.error == P.error && each (port_count P) (λ p. nat_eq (delay_of Q p) (delay_of P p)))

-- a change from plan P, with base B, to plan Q at tick T, with A as it was named: the cycle in which T falls is cut short after at most the extension, and begins when every frame now on a wire has left it by any clock
abbrev pub change_refused : Plan → ℕ → ℕ → Plan → ℕ → ℕ → Option ℕ
change_refused P B t Q A T =
    unless (same_links P Q) 61 (
    unless (nat_le A (2 ^ 47) && nat_le T (2 ^ 47)) 62 (
    unless (nat_le ((T - B) % P.cycle) P.extension) 63 (
    unless (nat_le (t + 1542 + 2 * P.error) (hold_from P B T)) 64 None)))

-- settling at tick t
abbrev pub settle_refused : Plan → ℕ → Transition → ℕ → Option ℕ
settle_refused P B steady t = None
settle_refused P B (pending Q T) t = Some 71
settle_refused P B (replaced O A) t = unless (nat_le (B + P.error) t) 71 None

-- the place of the first number above a bound, counted from k
abbrev pub first_above : ℕ → ℕ → List ℕ → Option ℕ
first_above bound k [] = None
first_above bound k (n ∷ ns) = cond (nat_le n bound) (first_above bound (suc k) ns) (Some k)

-- why a start is refused: its number, and the first port whose clock is not near enough
pub data StartRefusal : Type 0 where
  wrong_counts : StartRefusal
  wrong_base : StartRefusal
  wrong_clock : ℕ → StartRefusal

-- the number of each
abbrev pub start_number : StartRefusal → ℕ
start_number wrong_counts = 31
start_number wrong_base = 32
start_number (wrong_clock p) = 33

-- the port at fault, if there is one
abbrev pub clock_fault : Option ℕ → Option StartRefusal
clock_fault None = None
clock_fault (Some p) = Some (wrong_clock p)

-- starting with plan P at base B, with clocks of these error bounds and so many selections
abbrev pub start_refused : Plan → ℕ → List ℕ → ℕ → Option StartRefusal
start_refused P B bounds selections =
    cond (length bounds == port_count P && selections == port_count P)
    (cond (within P.error (2 ^ 47) B) (clock_fault (first_above P.error 0 bounds)) (Some wrong_base))
    (Some wrong_counts)

-- a change needs a steady network, and settling one that changes
abbrev pub in_order : Transition → Call → Bool
in_order steady (change Q A) = true
in_order (pending _ _) (change Q A) = false
in_order (replaced _ _) (change Q A) = false
in_order steady settle = false
in_order (pending _ _) settle = true
in_order (replaced _ _) settle = true
in_order tr (offer f) = true
in_order tr (queue p c octets label) = true
in_order tr (read_record f) = true
in_order tr (read_wire p) = true
in_order tr (advance n) = true

module _ {X : Type 0} (M : Machine X) where
  -- a network with other frames and ports
  abbrev pub with_core : Network X → X → Network X
  with_core n x = record { plan = n.plan; base = n.base; transition = n.transition; core = x }

  -- a network beside which something else stands
  abbrev pub with_transition : Network X → Transition → Network X
  with_transition n tr = record { plan = n.plan; base = n.base; transition = tr; core = n.core }

  -- when now becomes the tick of a change the new plan is in force, with that tick as its base, and its flows begin afresh
  abbrev pub switched : Plan → ℕ → Transition → X → Network X
  switched P B steady x = record { plan = P; base = B; transition = steady; core = x }
  switched P B (pending Q T) x = cond (M.now x == T)
      (record { plan = Q; base = T; transition = replaced P B; core = M.afresh Q x })
      (record { plan = P; base = B; transition = pending Q T; core = x })
  switched P B (replaced O A) x = record { plan = P; base = B; transition = replaced O A; core = x }

  -- the frames and ports after one tick, before a change
  abbrev pub stepped : Network X → X
  stepped n = M.ticked n.plan (timetable n.plan n.base n.transition) n.core

  -- one tick
  unfoldable pub tick : Network X → Network X
  tick n = switched n.plan n.base n.transition (stepped n)

  -- n ticks
  abbrev pub ticks : ℕ → Network X → Network X
  ticks zero n = n
  ticks (suc k) n = tick (ticks k n)

  -- the number with which a call is refused, if it is
  abbrev pub refusal : Network X → Call → Option ℕ
  refusal n (offer f) = offer_refused n.plan n.base n.transition (M.now n.core) f (M.flight n.core f)
  refusal n (queue p c octets label) = queue_refused n.plan p c octets label (M.queued n.core p c)
  refusal n (read_record f) = record_refused n.plan f
  refusal n (read_wire p) = wire_refused n.plan p
  refusal n (advance k) = advance_refused (M.now n.core) k
  refusal n (change Q A) = change_refused n.plan n.base (M.now n.core) Q A (change_tick (M.now n.core) Q A)
  refusal n settle = settle_refused n.plan n.base n.transition (M.now n.core)

  -- what it does if it is not refused
  abbrev pub done : Network X → Call → Network X
  done n (offer f) = with_core n (M.offered n.plan f n.core)
  done n (queue p c octets label) = with_core n (M.lined p c (record { octets = octets; label = label }) n.core)
  done n (read_record f) = n
  done n (read_wire p) = n
  done n (advance k) = ticks k n
  done n (change Q A) = with_transition n (pending Q (change_tick (M.now n.core) Q A))
  done n settle = with_transition n steady

  -- and what it replies then
  abbrev pub result : Network X → Call → Reply
  result n (offer f) = accepted
  result n (queue p c octets label) = queued
  result n (read_record f) = recorded (M.tells n.core f)
  result n (read_wire p) = carries (M.wire n.core p)
  result n (advance k) = now_is (M.now n.core + k)
  result n (change Q A) = changes_at (change_tick (M.now n.core) Q A)
  result n settle = settled

  -- the reply to a call
  abbrev pub reply : Network X → Call → Reply
  reply n c = cond (in_order n.transition c) (elim (refusal n c) [ None ↦ result n c | Some k ↦ refused k ]) out_of_order

  -- the network after it: a refused call, and one out of order, alters nothing
  abbrev pub after : Network X → Call → Network X
  after n c = cond (in_order n.transition c) (elim (refusal n c) [ None ↦ done n c | Some k ↦ n ]) n

  -- the network after a list of calls
  abbrev pub run : List Call → Network X → Network X
  run [] n = n
  run (c ∷ cs) n = run cs (after n c)

  -- the replies to a list of calls
  abbrev pub replies : List Call → Network X → List Reply
  replies [] n = []
  replies (c ∷ cs) n = reply n c ∷ replies cs (after n c)
