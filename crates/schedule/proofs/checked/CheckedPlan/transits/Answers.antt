use Rattle.std.proofs.Common.{◌≡◌, ◌+◌, ◌-◌, ◌<◌, ◌≤◌, sym, ap, ◌∙◌, subst, arith}
use Rattle.schedule.specs.declared.draft.Draft.{Draft}
use Rattle.schedule.specs.declared.tables.Flow.{Flow}
use Rattle.schedule.specs.Plan.{Plan, flow_count, release_of, crossed_at}
use Rattle.schedule.specs.Rules.{FlowKeeps}
use Rattle.schedule.specs.Drafts.{plan_of}
use Rattle.schedule.specs.Checks.{Transits, checked_plan}
use Rattle.schedule.proofs.Chains.{released_before, transits_are}
use Rattle.schedule.proofs.checked.CheckedPlan.transits.Goals.{After-of_flow-release}
use Rattle.schedule.proofs.checked.CheckedPlan.transits.Goals as goal

module _ (c : goal.After-of_flow-release) where
  abbrev P : Plan
  P = checked_plan c.args.self.now

  crossed_is : crossed_at (plan_of c.in_ok-last.last.draft.now) c.in_ok-last.last.flow c.in_ok-last.last.hop ≡ crossed_at P c.args.flow c.in_ok-last.last.hop
  crossed_is = let e = c.in_ok-last.ensures in (λ i. crossed_at (plan_of (e.0 i)) (e.1 i) c.in_ok-last.last.hop)

  present : c.args.flow < flow_count P
  present = let many = ap (λ (d : Draft). flow_count (plan_of d)) c.in_ok-last.ensures.0 in omega (arith, c.in_ok-last.ensures.1, c.in_ok-last.last.there.0)

  keeps : FlowKeeps P c.args.flow
  keeps = c.args.self.now.good c.args.flow present

  released : release_of P c.args.flow + P.error ≤ crossed_at P c.args.flow c.in_ok-last.last.hop
  released = released_before P c.args.flow keeps c.in_ok-last.last.hop c.in_ok-last.ensures.2

  release_is : c.of_flow-release.result.release ≡ release_of P c.args.flow
  release_is = let e = c.in_ok-last.ensures in ap (λ (x : Flow). x.release) c.of_flow-release.ensures.is ∙ (λ i. release_of (plan_of (e.0 i)) (e.1 i))

pub overflow_sub-result : goal.overflow_sub-result
overflow_sub-result c = let d = (goal.at.overflow_sub-result c).After-of_flow-release in omega (arith, released d, release_is d, crossed_is d, c.crossed.ensures.is)

pub overflow_sub-result-2 : goal.overflow_sub-result-2
overflow_sub-result-2 c = let d = (goal.at.overflow_sub-result-2 c).After-of_flow-release in omega (arith, released d, release_is d, crossed_is d, c.late_after.ensures.is)

pub returns : goal.returns
returns c =
    let d = (goal.at.returns c).After-of_flow-release in
    let r = sym (release_is d) in
    let e = sym (c.crossed.ensures.is ∙ crossed_is d) in
    let l : crossed_at (P d) c.args.flow c.in_ok-last.last.hop + (P d).error ≡ c.late_after.result = sym (c.late_after.ensures.is ∙ (λ i. crossed_is d i + (c.in_ok-last.ensures.0 i).error)) in
    (present d, subst (Transits (P d) c.args.flow) (λ i. (e i - (P d).error - r i, l i - r i)) (transits_are (P d) c.args.flow (keeps d) c.in_ok-last.last.hop c.in_ok-last.ensures.2))
