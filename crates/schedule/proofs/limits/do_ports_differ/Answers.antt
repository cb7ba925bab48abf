use Rattle.std.proofs.Common.{◌+◌, not, ◌&&◌, get_or, drop, sym, ap, ◌∙◌, arith}
use Rattle.std.proofs.lemmas.List.{at_drop_more, at_drop_all, take_rest}
use Rattle.std.proofs.lemmas.Bool.{and_left, and_right, not_from_true, le-ltb, lt-ltb}
use Rattle.schedule.specs.Limits.{among, ports_differ}
use Rattle.schedule.proofs.limits.do_ports_differ.Goals as goal

pub returns-then-port-count : goal.returns-then-port-count
returns-then-port-count c =
    sym (sym c.loop-hop.invariant ∙ at_drop_more (ports_differ c.args.count) c.args.route.now c.loop-hop.hop 0 (omega arith) ∙ and_left _ _ (le-ltb _ _ c.if-port-count.true))

pub returns-then-contains : goal.returns-then-contains
returns-then-contains c =
    let p = get_or c.args.route.now c.loop-hop.hop 0 in
    let seen = sym (c.if-contains.ensures.value ∙ ap (among p) (take_rest c.args.route.now (c.loop-hop.hop + 1))) in
    sym (sym c.loop-hop.invariant ∙ at_drop_more (ports_differ c.args.count) c.args.route.now c.loop-hop.hop 0 (omega arith)
    ∙ and_right _ _ (and_left _ _ (not_from_true _ seen)))

pub loop-hop-preserved : goal.loop-hop-preserved
loop-hop-preserved c =
    let p = get_or c.args.route.now c.loop-hop.hop 0 in
    let rest = ports_differ c.args.count (drop (c.loop-hop.hop + 1) c.args.route.now) in
    let seen = sym (c.if-contains.ensures.value ∙ ap (among p) (take_rest c.args.route.now (c.loop-hop.hop + 1))) in
    let below = lt-ltb p c.args.count c.if-port-count.false in
    sym (at_drop_more (ports_differ c.args.count) c.args.route.now c.loop-hop.hop 0 (omega arith) ∙ (λ i. below i && (not (seen i) && rest))) ∙ c.loop-hop.invariant

pub returns : goal.returns
returns c = sym (at_drop_all (ports_differ c.args.count) c.args.route.now c.loop-hop.hop (omega arith)) ∙ c.loop-hop.invariant
