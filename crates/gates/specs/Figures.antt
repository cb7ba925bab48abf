-- A worked example: two flows over two ports, placed, with their certificates and a gate list.
use Rattle.std.specs.Prelude.{◌≡◌, List, [], ◌∷◌}
use Rattle.schedule.specs.Plan.{Plan, certificate_of}
use Rattle.schedule.specs.Rules.{Good}
use Rattle.schedule.specs.Drafts.{empty_plan, with_flow}
use Rattle.schedule.specs.Placing.{LeastPlacement, NoneFit}
use Rattle.gates.specs.declared.entry.GateEntry.{GateEntry}
use Rattle.gates.specs.Lists.{IsGateList}

-- a cycle of 10,000 ticks, a clock error of 10, an extension of 200, and two ports with delays 50 and 30
abbrev pub two_ports : Plan
two_ports = empty_plan 10000 10 200 (50 ∷ 30 ∷ [])

-- a flow with release 0, 100 octets and deadline 400 through both, at offsets 20 and 210
abbrev pub one_flow : Plan
one_flow = with_flow two_ports 0 100 400 (0 ∷ 1 ∷ []) (20 ∷ 210 ∷ [])

-- beside it one with release 170, 64 octets and deadline 400, at offsets 236 and 390
abbrev pub two_flows : Plan
two_flows = with_flow one_flow 170 64 400 (0 ∷ 1 ∷ []) (236 ∷ 390 ∷ [])

-- the gate list of port 1 with the first flow
abbrev pub list_of_one : List GateEntry
list_of_one = record { octet = 0x7F; ticks = 190 } ∷ record { octet = 0x00; ticks = 20 } ∷ record { octet = 0x80; ticks = 140 } ∷ record { octet = 0x7F; ticks = 9650 } ∷ []

-- what the definitions say of the example
pub record Figures : Type 0 where
  pub first_good : Good one_flow
  pub first_certificate : certificate_of one_flow 0 ≡ (350, 370)
  pub first_list : IsGateList one_flow 1 list_of_one
  pub second_good : Good two_flows
  pub second_certificate : certificate_of two_flows 1 ≡ (324, 344)
  pub first_placed : LeastPlacement two_ports 0 100 400 (0 ∷ 1 ∷ []) (20 ∷ 210 ∷ [])
  pub second_placed : LeastPlacement one_flow 170 64 400 (0 ∷ 1 ∷ []) (236 ∷ 390 ∷ [])
  pub sooner_refused : NoneFit one_flow 169 64 400 (0 ∷ 1 ∷ [])
