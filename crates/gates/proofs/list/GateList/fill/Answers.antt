use Rattle.std.proofs.Common.{ℕ, ◌-◌, [], ◌∷◌, ◌++◌, vec_items, sym, ap, ◌∙◌, arith}
use Rattle.schedule.specs.Checks.{checked_plan}
use Rattle.gates.specs.declared.entry.GateEntry.{GateEntry}
use Rattle.gates.specs.Lists.{IsGateList}
use Rattle.gates.proofs.Running.{running_start, running_on, running_push, finished}
use Rattle.gates.proofs.list.GateList.fill.Goals.{After-stretch_from-stretch-in-loop-stretch, After-push_reserved-2}
use Rattle.gates.proofs.list.GateList.fill.Goals as goal

pub loop-stretch-init : goal.loop-stretch-init
loop-stretch-init c = (running_start c.args.plan.now c.args.port (vec_items c.args.entries) c.requires.0 c.stretch_from-stretch.result c.stretch_from-stretch.ensures, c.requires.1)

pub loop-stretch-preserved-then-stretch-octet : goal.loop-stretch-preserved-then-stretch-octet
loop-stretch-preserved-then-stretch-octet c = (
  running_on c.args.plan.now c.args.port (vec_items c.loop-stretch.entries) c.loop-stretch.begun c.loop-stretch.stretch c.loop-stretch.invariant.0
      (omega arith) c.stretch_from-stretch-in-loop-stretch.result c.stretch_from-stretch-in-loop-stretch.ensures c.if-stretch-octet.true,
  c.loop-stretch.invariant.1,
)

pub loop-stretch-preserved : goal.loop-stretch-preserved
loop-stretch-preserved c = (
  running_push c.args.plan.now c.args.port (vec_items c.loop-stretch.entries) c.loop-stretch.begun c.loop-stretch.stretch c.loop-stretch.invariant.0
      (omega arith) c.stretch_from-stretch-in-loop-stretch.result c.stretch_from-stretch-in-loop-stretch.ensures c.if-stretch-octet.false
      (vec_items c.push_reserved.new.self) c.push_reserved.ensures.items,
  omega arith,
)

whole_list : (c : goal.After-push_reserved-2) → IsGateList (checked_plan c.args.plan.now) c.args.port (vec_items c.push_reserved-2.new.self)
whole_list c =
    let es = vec_items c.loop-stretch.entries in
    let entry : ℕ → GateEntry = λ n. record { octet = c.loop-stretch.stretch.octet; ticks = n - c.loop-stretch.begun } in
    finished c.args.plan.now c.args.port es c.loop-stretch.begun c.loop-stretch.stretch c.loop-stretch.invariant.0
    (omega arith) (vec_items c.push_reserved-2.new.self) (c.push_reserved-2.ensures.items ∙ ap (λ n. es ++ entry n ∷ []) (c.from-cycle.ensures ∙ c.cycle.ensures))

pub invariant_of-result : goal.invariant_of-result
invariant_of-result c =
    let made = whole_list (goal.at.invariant_of-result c).After-push_reserved-2 in
    record {
      lasting = made.lasting;
      whole = made.whole ∙ sym c.cycle-2.ensures;
      positive = omega (arith, c.args.plan.now.draft.timing.0);
      roomy = omega arith;
    }

pub returns : goal.returns
returns c = (c.cycle-2.ensures, whole_list (goal.at.returns c).After-push_reserved-2)
