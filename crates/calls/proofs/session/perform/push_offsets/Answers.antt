use Rattle.std.proofs.Common.{List, [], ◌∷◌, ◌++◌, map, get_or, take, vec_items, sym, ap, ◌∙◌, append_assoc, arith}
use Rattle.std.proofs.lemmas.List.{map_more, take_all}
use Rattle.schedule.specs.declared.tables.Window.{Window}
use Rattle.schedule.specs.Plan.{no_window}
use Rattle.calls.specs.Sessions.{offset_in}
use Rattle.calls.proofs.session.perform.push_offsets.Goals as goal

pub loop-window-preserved : goal.loop-window-preserved
loop-window-preserved c =
    let ws = c.args.windows.now in
    let i = c.loop-window.window-index in
    let was = vec_items c.args.offsets.now in
    let front = map offset_in (take i ws) in
    let o = offset_in (get_or ws i no_window) in (
      c.push_reserved.ensures.items ∙ ap (λ l. l ++ o ∷ []) c.loop-window.invariant.0 ∙ append_assoc was front (o ∷ []) ∙ ap (λ l. was ++ l) (sym (map_more offset_in ws i no_window (omega arith))),
      omega (arith, c.push_reserved.ensures.len),
      c.push_reserved.ensures.capacity ∙ c.loop-window.invariant.2,
    )

pub returns : goal.returns
returns c =
    let ws = c.args.windows.now in
    c.loop-window.invariant.0 ∙ ap (λ (l : List Window). vec_items c.args.offsets.now ++ map offset_in l) (take_all c.loop-window.window-index ws (omega arith))
