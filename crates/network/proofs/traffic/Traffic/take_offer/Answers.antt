use Rattle.std.proofs.Common.{◌≤◌, [], ◌∷◌, map, vec_items, sym, ap, ◌∙◌, arith}
use Rattle.std.proofs.lemmas.List.{length-map}
use Rattle.network.specs.Ports.{at_place, joined_by}
use Rattle.network.specs.Tables.{row_accepted, offered_table}
use Rattle.network.specs.Clocked.{port_in}
use Rattle.network.specs.Traffic.{tables_of}
use Rattle.network.proofs.Places.{place_set, place_none, past_end}
use Rattle.network.proofs.traffic.Traffic.take_offer.Goals as goal

pub returns-in_default-clause-view : goal.returns-in_default-clause-view
unfolding tables_of offered_table
returns-in_default-clause-view g c =
    let s = c.args.self.now in let f = c.args.f in let k = c.port_of_hop.result in
    let past : s.ports.len ≤ k = past_end k s.ports.len c.in_default.ensures.variant.1 in
    let r = place_set f (row_accepted s.now) (vec_items s.rows) _ c.index_mut.result.now (omega (arith, c.requires, s.rows.ok.0)) (c.accept.ensures ∙ ap (row_accepted s.now) c.index_mut.ensures.value) in
    let q = place_none k (joined_by (f ∷ [])) (map port_in (vec_items s.ports)) (omega (arith, length-map (vec_items s.ports) port_in, s.ports.ok.0)) in
    λ i. record { now = s.now; rows = r i; ports = (sym q ∙ ap (λ k. at_place k (joined_by (f ∷ [])) (map port_in (vec_items s.ports))) c.port_of_hop.ensures) i }
