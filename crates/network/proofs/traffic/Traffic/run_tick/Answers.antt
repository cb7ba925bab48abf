use Rattle.std.proofs.Common.{◌≡◌, ◌+◌, List, map, length, get_or, None, vec_items, sym, refl, ap, ◌∙◌}
use Rattle.std.proofs.lemmas.List.{with_items_is, length-map}
use Rattle.schedule.specs.Checks.{checked_plan}
use Rattle.network.specs.declared.clocked.ClockedPort.{ClockedPort}
use Rattle.network.specs.declared.row.Row.{Row}
use Rattle.network.specs.Lawful.{Meaning, meaning}
use Rattle.network.specs.Tables.{over, reads, row_landed, row_departed}
use Rattle.network.specs.Clocked.{port_in, started_in, guide_of, whole, run_through}
use Rattle.network.specs.Traffic.{tables_of, guides_of, timetables, clocks, followed}
use Rattle.network.proofs.Loops.{through_ports, guides_kept, ticked_by}
use Rattle.network.proofs.Overs.{length_over}
use Rattle.network.proofs.traffic.Traffic.run_tick.Goals as goal

pub returns : goal.returns
unfolding tables_of guides_of
returns g c =
    let s = c.args.self.now in
    let P = checked_plan c.args.plan.now in
    let X : Meaning g.row.S.Denot = meaning g.S.Selection.held g.S.Selection.pick g.S.Selection.passed in
    let r = g.K.Clock.reading in
    let t = s.now in
    let xs : List (ClockedPort g.row.S.Denot g.row.K.Denot) = vec_items s.ports in
    let ys : List (ClockedPort g.row.S.Denot g.row.K.Denot) = c.run_ports.new.ports in
    let rs : List Row = c.step_rows.new.rows in
    let gs = map guide_of xs in
    let ep = c.as_mut_slice.ensures.value in
    let er = c.as_slice-rows.ensures.value in
    let a : map whole ys ≡ over (run_through r X P t (vec_items s.rows)) 0 (map whole xs)
    = c.run_ports.ensures ∙ (λ i. over (run_through r X P t (er i)) 0 (map whole (ep i))) in
    let n : length ys ≡ s.ports.len = sym (length-map ys whole) ∙ ap length a ∙ length_over _ 0 (map whole xs) ∙ length-map xs whole ∙ sym s.ports.ok.0 in
    let e = with_items_is s.ports ys n in
    let eq = c.as_slice.ensures.value in
    let em = c.as_mut_slice-2.ensures.value in
    let b : rs ≡ over (λ f r. row_departed P t (λ p. get_or (map started_in ys) p None) f (row_landed P t f r)) 0 (vec_items s.rows)
    = c.step_rows.ensures ∙ (λ i. over (λ f r. row_departed P t (λ p. get_or (map started_in ((eq ∙ e) i)) p None) f (row_landed P t f r)) 0 (em i)) in
    let m : length rs ≡ s.rows.len = ap length b ∙ length_over _ 0 (vec_items s.rows) ∙ sym s.rows.ok.0 in
    let d = with_items_is s.rows rs m in
    record {
      view = (λ i. record { now = t + 1; rows = d i; ports = map port_in (e i) })
          ∙ ticked_by (reads r (clocks gs)) X P (followed (timetables gs)) t xs ys (vec_items s.rows) rs (through_ports r X P t (vec_items s.rows) xs ys a) b;
      kept = (refl, refl, (refl, ap (map guide_of) e ∙ guides_kept r X P t (vec_items s.rows) xs ys a));
    }
