use Rattle.std.proofs.Common.{◌≤◌, map, vec_items, sym, arith}
use Rattle.std.proofs.lemmas.List.{length-map}
use Rattle.network.specs.Ports.{with_frame}
use Rattle.network.specs.Clocked.{port_in}
use Rattle.network.specs.Traffic.{tables_of, lined_table}
use Rattle.network.proofs.Places.{place_none, past_end}
use Rattle.network.proofs.traffic.Traffic.take_frame.Goals as goal

pub returns-in_default-clause-view : goal.returns-in_default-clause-view
unfolding tables_of lined_table
returns-in_default-clause-view g c =
    let s = c.args.self.now in let k = c.args.p in
    let past : s.ports.len ≤ k = past_end k s.ports.len c.in_default.ensures.variant.1 in
    let q = place_none k (with_frame c.args.class c.args.frame) (map port_in (vec_items s.ports)) (omega (arith, length-map (vec_items s.ports) port_in, s.ports.ok.0)) in
    λ i. record { now = s.now; rows = vec_items s.rows; ports = sym q i }
