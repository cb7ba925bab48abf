use Rattle.std.proofs.Common.{◌≡◌, ℕ, ◌+◌, ◌-◌, ◌*◌, ◌<◌, eqb, List, length, get_or, drop, sym, ap, ◌∙◌, add-one, arith}
use Rattle.std.proofs.lemmas.Bool.{eq-eqb, ne_eqb, cond-true, cond-false}
use Rattle.std.proofs.lemmas.List.{get_or-take, get_or-drop, length-take}
use Rattle.schedule.specs.declared.tables.Window.{Window}
use Rattle.schedule.specs.Plan.{Plan, no_window, flow_at, windows_of, window_at, port_at, offset_at, end_at, wire_of}
use Rattle.gates.specs.declared.list.stretch.Stretch.{Stretch}
use Rattle.gates.specs.Scan.{stretch_with, stretch_at, stretch_hops}
use Rattle.schedule.specs.Checks.{checked_plan}
use Rattle.gates.proofs.list.stretch.stretch_from.Goals as goal

-- the window of a hop
hop_window : (P : Plan) (f h : ℕ) → h < length (windows_of P f) → get_or (windows_of P f) h no_window ≡ window_at P f h
hop_window P f h lt =
    get_or-take (flow_at P f).hops (drop (flow_at P f).first P.windows) h no_window (omega (arith, length-take (flow_at P f).hops (drop (flow_at P f).first P.windows)))
    ∙ get_or-drop (flow_at P f).first P.windows h no_window

-- it is at the port, so its edges count
seen_at : (P : Plan) (p t f h : ℕ) (s : Stretch) (g b n : ℕ) → h < length (windows_of P f) → (get_or (windows_of P f) h no_window).port ≡ p
    → g ≡ (get_or (windows_of P f) h no_window).offset - 2 * P.error → b ≡ (get_or (windows_of P f) h no_window).offset
    → n ≡ (get_or (windows_of P f) h no_window).offset + wire_of P f + 2 * P.error → stretch_with t g b n s ≡ stretch_at P p t f h s
seen_at P p t f h s g b n lt at guard begin end =
    let is = hop_window P f h lt in
    let there : port_at P f h ≡ p = ap (λ (w : Window). w.port) (sym is) ∙ at in
    (λ i. stretch_with t ((guard ∙ (λ j. (is j).offset - 2 * P.error)) i) ((begin ∙ (λ j. (is j).offset)) i) ((end ∙ (λ j. (is j).offset + wire_of P f + 2 * P.error)) i) s)
    ∙ sym (cond-true (eqb (port_at P f h) p) (stretch_with t (offset_at P f h - 2 * P.error) (offset_at P f h) (end_at P f h) s) s (eq-eqb (port_at P f h) p there))

-- it is at another port, so it counts for nothing
missed_at : (P : Plan) (p t f h : ℕ) (s : Stretch) → h < length (windows_of P f) → ((get_or (windows_of P f) h no_window).port ≡ p → ⊥) → s ≡ stretch_at P p t f h s
missed_at P p t f h s lt other =
    let is = hop_window P f h lt in
    sym (cond-false (eqb (port_at P f h) p) (stretch_with t (offset_at P f h - 2 * P.error) (offset_at P f h) (end_at P f h) s) s (ne_eqb (port_at P f h) p (λ e. other (ap (λ (w : Window). w.port) is ∙ e))))

pub loop-window-preserved-then-window-port : goal.loop-window-preserved-then-window-port
loop-window-preserved-then-window-port c =
    let P = checked_plan c.args.plan.now in
    let missed = missed_at P c.args.port c.args.tick c.loop-number.number c.loop-window.window-index c.loop-window.stretch
    (omega (arith, ap length c.hops-window-items.ensures.is)) (λ e. c.if-window-port.true (ap (λ (l : List Window). (get_or l c.loop-window.window-index no_window).port) c.hops-window-items.ensures.is ∙ e)) in
    missed ∙ ap (stretch_at P c.args.port c.args.tick c.loop-number.number c.loop-window.window-index) c.loop-window.invariant
    ∙ ap (stretch_hops P c.args.port c.args.tick c.loop-number.number c.loop-number.stretch) (sym (add-one c.loop-window.window-index))

pub loop-window-preserved : goal.loop-window-preserved
loop-window-preserved c =
    let P = checked_plan c.args.plan.now in
    let seen = seen_at P c.args.port c.args.tick c.loop-number.number c.loop-window.window-index c.loop-window.stretch c.of-edges.result.guard c.of-edges.result.begin c.of-edges.result.end
    (omega (arith, ap length c.hops-window-items.ensures.is)) (cc) (cc) (cc) (cc) in
    c.with-stretch.ensures ∙ seen ∙ ap (stretch_at P c.args.port c.args.tick c.loop-number.number c.loop-window.window-index) c.loop-window.invariant
    ∙ ap (stretch_hops P c.args.port c.args.tick c.loop-number.number c.loop-number.stretch) (sym (add-one c.loop-window.window-index))
