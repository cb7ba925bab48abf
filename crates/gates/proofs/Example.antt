-- The worked example, computed.
use Rattle.std.proofs.Common.{◌≡◌, ℕ, zero, suc, ◌-◌, ◌<◌, ◌≤◌, [], get_or, drop, sym, refl, ◌∙◌, inl, inr, arith, lit<, lit≤}
use Rattle.gates.specs.declared.entry.GateEntry.{GateEntry}
use Rattle.std.proofs.lemmas.Bool.{cases_lt}
use Rattle.schedule.specs.Plan.{Plan, hop_count, port_at}
use Rattle.schedule.specs.Rules.{Good, KeepsRules, FlowKeeps, Apart}
use Rattle.gates.specs.Octets.{octet_at}
use Rattle.gates.specs.Scan.{stretch_after}
use Rattle.gates.specs.Lists.{no_entry, yields, Lasting, Changing}
use Rattle.gates.specs.Figures.{one_flow, two_flows, list_of_one, Figures}
use Rattle.gates.proofs.Placements.{first_placed, second_placed, sooner_refused}
use Rattle.gates.proofs.Meets.{stretch_octet}
use Rattle.gates.proofs.Edges.{octet_stays}
use Rattle.gates.proofs.Entries.{yields_head, yields_tail}

-- a flow with no flow below it stands apart
first_flow : (P : Plan) → hop_count P 0 ≡ 2 → KeepsRules P 0 0 → KeepsRules P 0 1 → FlowKeeps P 0
first_flow P two k0 k1 zero lt = k0
first_flow P two k0 k1 (suc zero) lt = k1
first_flow P two k0 k1 (suc (suc h)) lt = absurd (omega arith)

hop_0_0 : KeepsRules one_flow 0 0
hop_0_0 = record { guarded = lit≤ tt; ends = lit≤ tt; reached = lit≤ tt; delivered = λ e. absurd (omega arith); meets = λ e. absurd (omega arith); apart = λ g lt. absurd (omega arith) }

hop_0_1 : KeepsRules one_flow 0 1
hop_0_1 = record { guarded = lit≤ tt; ends = lit≤ tt; reached = lit≤ tt; delivered = λ e. lit< tt; meets = λ e. lit≤ tt; apart = λ g lt. absurd (omega arith) }

one_good : Good one_flow
one_good zero lt = first_flow one_flow refl hop_0_0 hop_0_1
one_good (suc f) lt = absurd (omega arith)

-- the same hops beside the second flow
beside_0_0 : KeepsRules two_flows 0 0
beside_0_0 = record { guarded = lit≤ tt; ends = lit≤ tt; reached = lit≤ tt; delivered = λ e. absurd (omega arith); meets = λ e. absurd (omega arith); apart = λ g lt. absurd (omega arith) }

beside_0_1 : KeepsRules two_flows 0 1
beside_0_1 = record { guarded = lit≤ tt; ends = lit≤ tt; reached = lit≤ tt; delivered = λ e. lit< tt; meets = λ e. lit≤ tt; apart = λ g lt. absurd (omega arith) }

apart_0 : (g : ℕ) → g < 1 → (k : ℕ) → k < hop_count two_flows g → port_at two_flows g k ≡ port_at two_flows 1 0 → Apart two_flows 1 0 g k
apart_0 zero lt zero lk e = record { differ = λ q. omega arith; above = λ h. lit≤ tt; below = λ h. absurd (omega arith) }
apart_0 zero lt (suc zero) lk e = absurd (omega arith)
apart_0 zero lt (suc (suc k)) lk e = absurd (omega arith)
apart_0 (suc g) lt k lk e = absurd (omega arith)

apart_1 : (g : ℕ) → g < 1 → (k : ℕ) → k < hop_count two_flows g → port_at two_flows g k ≡ port_at two_flows 1 1 → Apart two_flows 1 1 g k
apart_1 zero lt zero lk e = absurd (omega arith)
apart_1 zero lt (suc zero) lk e = record { differ = λ q. omega arith; above = λ h. lit≤ tt; below = λ h. absurd (omega arith) }
apart_1 zero lt (suc (suc k)) lk e = absurd (omega arith)
apart_1 (suc g) lt k lk e = absurd (omega arith)

second_flow : FlowKeeps two_flows 1
second_flow zero lt = record { guarded = lit≤ tt; ends = lit≤ tt; reached = lit≤ tt; delivered = λ e. absurd (omega arith); meets = λ e. absurd (omega arith); apart = apart_0 }
second_flow (suc zero) lt = record { guarded = lit≤ tt; ends = lit≤ tt; reached = lit≤ tt; delivered = λ e. lit< tt; meets = λ e. lit≤ tt; apart = apart_1 }
second_flow (suc (suc h)) lt = absurd (omega arith)

two_good : Good two_flows
two_good zero lt = first_flow two_flows refl beside_0_0 beside_0_1
two_good (suc zero) lt = second_flow
two_good (suc (suc f)) lt = absurd (omega arith)

-- from tick t to tick u port 1 has one octet, read off the windows at t
steady : (t x : ℕ) → t ≤ x → x < (stretch_after one_flow 1 t).until → octet_at one_flow 1 x ≡ (stretch_after one_flow 1 t).octet
steady t x le lt = octet_stays one_flow 1 t x le lt ∙ sym (stretch_octet one_flow 1 t)

abbrev entry : ℕ → GateEntry
entry i = get_or list_of_one i no_entry

yields_right : (x : ℕ) → x < 10000 → yields list_of_one x ≡ octet_at one_flow 1 x
unfolding stretch_after
yields_right x lt = elim (cases_lt x 190) [
  | inl a ↦ yields_head (entry 0) (drop 1 list_of_one) x a ∙ sym (steady 0 x (omega arith) a)
  | inr a ↦ yields_tail (entry 0) (drop 1 list_of_one) x a ∙ elim (cases_lt x 210) [
    | inl b ↦ yields_head (entry 1) (drop 2 list_of_one) (x - 190) (omega arith) ∙ sym (steady 190 x a b)
    | inr b ↦ yields_tail (entry 1) (drop 2 list_of_one) (x - 190) (omega arith) ∙ elim (cases_lt x 350) [
      | inl c ↦ yields_head (entry 2) (drop 3 list_of_one) (x - 190 - 20) (omega arith) ∙ sym (steady 210 x b c)
      | inr c ↦ yields_tail (entry 2) (drop 3 list_of_one) (x - 190 - 20) (omega arith) ∙ yields_head (entry 3) [] (x - 190 - 20 - 140) (omega arith) ∙ sym (steady 350 x c lt)
    ]
  ]
]

lasting_right : Lasting list_of_one
lasting_right zero lt = lit< tt
lasting_right (suc zero) lt = lit< tt
lasting_right (suc (suc zero)) lt = lit< tt
lasting_right (suc (suc (suc zero))) lt = lit< tt
lasting_right (suc (suc (suc (suc i)))) lt = absurd (omega arith)

changing_right : Changing list_of_one
changing_right zero lt e = omega arith
changing_right (suc zero) lt e = omega arith
changing_right (suc (suc zero)) lt e = omega arith
changing_right (suc (suc (suc i))) lt e = absurd (omega arith)

pub figures : Figures
figures = record {
  first_good = one_good;
  first_certificate = refl;
  first_list = record { yielding = yields_right; lasting = lasting_right; changing = changing_right; whole = refl; few = lit≤ tt };
  second_good = two_good;
  second_certificate = refl;
  first_placed = first_placed (one_good 0 (lit< tt));
  second_placed = second_placed second_flow;
  sooner_refused = sooner_refused;
}
