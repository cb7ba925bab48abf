-- The calls that make a draft: what they reply, and what the draft then holds.
use Rattle.std.specs.Prelude.{◌≡◌, ℕ, List, [], ◌∷◌, ◌++◌, map, length, Some, None, Ok, Err, vec_items, Option, Result, nat_lt}
use Rattle.schedule.specs.declared.tables.Port.{Port}
use Rattle.schedule.specs.declared.tables.Window.{Window}
use Rattle.schedule.specs.declared.draft.Draft.{Draft}
use Rattle.schedule.specs.declared.refusal.OpenRefusal.{OpenRefusal}
use Rattle.schedule.specs.declared.refusal.FlowRefusal.{FlowRefusal}
use Rattle.schedule.specs.Numbers.{open_number, flow_number}
use Rattle.schedule.specs.Limits.{unless, timing_allowed, ports_allowed, flow_allowed, route_allowed, offsets_allowed}
use Rattle.schedule.specs.Plan.{Plan, flow_count}

-- the plan that a draft holds
abbrev pub plan_of : Draft → Plan
plan_of d = record { cycle = d.cycle; error = d.error; extension = d.extension; ports = vec_items d.ports; flows = vec_items d.flows; windows = vec_items d.windows }

-- the number with which opening is refused, if it is
abbrev pub open_refused : ℕ → ℕ → ℕ → List ℕ → Option ℕ
open_refused cycle error extension delays =
    unless (timing_allowed cycle error extension) 6 (
    unless (ports_allowed delays) 7 None)

-- a port whose link has that delay
abbrev pub port_with : ℕ → Port
port_with d = record { delay = d }

-- a plan with ports and no flows
abbrev pub empty_plan : ℕ → ℕ → ℕ → List ℕ → Plan
empty_plan cycle error extension delays = record { cycle = cycle; error = error; extension = extension; ports = map port_with delays; flows = []; windows = [] }

-- opening replies the empty plan as a draft, or the number by which it is refused; it lacks memory only where nothing else refuses it
abbrev pub Opens : ℕ → ℕ → ℕ → List ℕ → Result Draft OpenRefusal → Type 0
Opens cycle error extension delays (Ok d) = (open_refused cycle error extension delays ≡ None) × (plan_of d ≡ empty_plan cycle error extension delays)
Opens cycle error extension delays (Err e) = open_number e ≡ open_refused cycle error extension delays

-- the number with which adding a flow is refused, if it is
abbrev pub add_refused : Plan → ℕ → ℕ → ℕ → List ℕ → List ℕ → Option ℕ
add_refused P release octets deadline route offsets =
    unless (nat_lt (flow_count P) 16) 1 (
    unless (flow_allowed P.cycle release octets deadline) 2 (
    unless (route_allowed (length P.ports) route) 3 (
    unless (offsets_allowed P.cycle route offsets) 5 None)))

-- the windows of a route, hop by hop
abbrev pub windows_along : List ℕ → List ℕ → List Window
windows_along [] os = []
windows_along (p ∷ ps) [] = []
windows_along (p ∷ ps) (o ∷ os) = record { port = p; offset = o } ∷ windows_along ps os

-- the plan with one flow more, behind the others
abbrev pub with_flow : Plan → ℕ → ℕ → ℕ → List ℕ → List ℕ → Plan
with_flow P release octets deadline route offsets = record {
  cycle = P.cycle;
  error = P.error;
  extension = P.extension;
  ports = P.ports;
  flows = P.flows ++ record { release = release; octets = octets; deadline = deadline; first = length P.windows; hops = length route } ∷ [];
  windows = P.windows ++ windows_along route offsets;
}

-- adding replies the number of the flow, which the draft then holds; a refusal leaves the draft as it was
abbrev pub Adds : Draft → ℕ → ℕ → ℕ → List ℕ → List ℕ → Result ℕ FlowRefusal → Draft → Type 0
Adds d release octets deadline route offsets (Ok f) after =
    (add_refused (plan_of d) release octets deadline route offsets ≡ None)
    × (f ≡ flow_count (plan_of d))
    × (plan_of after ≡ with_flow (plan_of d) release octets deadline route offsets)
Adds d release octets deadline route offsets (Err e) after =
    (add_refused (plan_of d) release octets deadline route offsets ≡ Some (flow_number e))
    × (after ≡ d)
