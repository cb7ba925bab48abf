use Rattle.std.proofs.Common.{ℕ, suc, ◌^◌, ◌<◌, [], ◌∷◌, ◌++◌, List, length, get_or, vec_items, sym, ap, ◌∙◌, subst, append_assoc, arith}
use Rattle.schedule.specs.declared.tables.Window.{Window}
use Rattle.schedule.specs.Drafts.{windows_along}
use Rattle.schedule.proofs.draft.add.push_windows.Goals as goal

pub loop-port-preserved : goal.loop-port-preserved
loop-port-preserved c =
    let was = c.loop-port.invariant in
    let steps = c.in-Some.ensures.steps in
    let ps = c.next.new.self.a.rest.now in
    let os = c.next.new.self.b.rest.now in
    let before = vec_items c.loop-port.windows in
    let w : Window = record { port = c.in-Some.port.now; offset = c.in-Some.offset.now } in
    let p = sym steps.0 in
    let o = sym steps.1 in
    record {
      items = ap (λ l. l ++ windows_along ps os) c.push_reserved.ensures.items ∙ append_assoc before (w ∷ []) (windows_along ps os) ∙ (λ i. before ++ windows_along (p i) (o i)) ∙ was.items;
      room = omega (arith, c.push_reserved.ensures.len, ap (λ (l : List ℕ). length l) steps.0);
      capacity = c.push_reserved.ensures.capacity ∙ was.capacity;
      same_length = omega (arith, ap (λ (l : List ℕ). length l) steps.0, ap (λ (l : List ℕ). length l) steps.1);
      fits = λ i lt. subst (λ (l : List ℕ). (i : ℕ) → i < length l → get_or l i 0 < 2 ^ 32) steps.1 was.fits (suc i) (omega arith);
    }
