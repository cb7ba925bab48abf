use Rattle.std.proofs.Common.{rules, ◌≡◌, ◌-◌, ◌<◌, min, true, vec_items, sym, ap, ◌∙◌, arith}
use Rattle.gates.specs.declared.entry.GateEntry.{GateEntry}
use Rattle.gates.specs.Octets.{opens}
use Rattle.gates.specs.Lookup.{last_octet, held_from, list_octet}
use Rattle.gates.proofs.Leads.{leading}
use Rattle.gates.proofs.Changes.{first_shuts, hold_shuts, next_counts, after_counts}
use Rattle.gates.proofs.timetable.Rotation.open_across.Goals.{After-min-turning, After-open_ticks-2, else-held-gt0-via-then-held-gt0+else-not-is_open, else-held-gt0-via-else-held-gt0}
use Rattle.gates.proofs.timetable.Rotation.open_across.Goals as goal

turns : (c : goal.After-min-turning) → c.min-turning.result ≡ min (held_from c.args.self.now.list.cycle c.args.self.now.base c.args.next.now.base - c.args.l) c.args.most
turns c = c.min-turning.ensures ∙ ap (λ n. min n c.args.most) (c.saturating_sub.ensures ∙ ap (λ n. n - c.args.l) c.hold_from-hold.ensures)

pub returns-then-l-next : goal.returns-then-l-next
returns-then-l-next c = search (rules, after_counts)

pub returns-then-open-turning : goal.returns-then-open-turning
returns-then-open-turning c =
    let a = c.args.self.now in
    let n = c.args.next.now in
    first_shuts (vec_items a.list.entries) a.list.cycle a.base (vec_items n.list.entries) n.list.cycle n.base c.args.l c.args.class c.args.most
    c.min-turning.result c.if-l-next.false (turns (goal.at.returns-then-open-turning c).After-min-turning) c.open_ticks-open.result c.open_ticks-open.ensures
    c.if-open-turning.true

pub returns-then-not-is_open : goal.returns-then-not-is_open
returns-then-not-is_open c =
    let a = c.args.self.now in
    let n = c.args.next.now in
    hold_shuts (vec_items a.list.entries) a.list.cycle a.base (vec_items n.list.entries) n.list.cycle n.base c.args.l c.args.class c.args.most
    c.min-turning.result c.if-l-next.false (turns (goal.at.returns-then-not-is_open c).After-min-turning) c.open_ticks-open.result c.open_ticks-open.ensures
    c.if-open-turning.false c.min-held.result c.min-held.ensures c.if-held-gt0.true
    (sym (c.if-not-is_open.ensures ∙ ap (λ (e : GateEntry). opens e.octet c.args.class) c.last.ensures))

pub overflow_add-result-2 : goal.overflow_add-result-2
overflow_add-result-2 c =
    let n = c.args.next.now in
    let k = (leading (list_octet (vec_items n.list.entries) n.list.cycle n.base) n.base c.args.class (c.args.most - c.min-turning.result - c.min-held.result) c.open_ticks-2.result c.open_ticks-2.ensures).within in
    let t = c.min-turning.ensures in
    let h = c.min-held.ensures in
    let m = c.ranges.most in
    omega arith

-- if there is a hold, it leaves the gate open
stays : (c : goal.After-open_ticks-2) → 0 < c.min-held.result → opens (last_octet (vec_items c.args.self.now.list.entries)) c.args.class ≡ true
stays c some = elim c.else-held-gt0.branch [
  | else-held-gt0-via-then-held-gt0+else-not-is_open w ↦ sym (w.if-not-is_open.ensures ∙ ap (λ (e : GateEntry). opens e.octet c.args.class) w.last.ensures)
  | else-held-gt0-via-else-held-gt0 w ↦ absurd (let h = w.if-held-gt0.false in omega arith)
]

pub returns : goal.returns
returns c =
    let a = c.args.self.now in
    let n = c.args.next.now in
    next_counts (vec_items a.list.entries) a.list.cycle a.base (vec_items n.list.entries) n.list.cycle n.base c.args.l c.args.class c.args.most
    c.min-turning.result c.if-l-next.false (turns (goal.at.returns c).After-min-turning) c.open_ticks-open.result c.open_ticks-open.ensures
    c.if-open-turning.false c.min-held.result c.min-held.ensures (stays (goal.at.returns c).After-open_ticks-2) c.open_ticks-2.result c.open_ticks-2.ensures
