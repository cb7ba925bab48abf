use Rattle.std.proofs.Common.{◌≡◌, ◌-◌, ap, ◌∙◌, arith}
use Rattle.schedule.specs.declared.draft.Draft.{Draft}
use Rattle.schedule.specs.Plan.{HasHop, flow_count, hop_count, early_at, late_at}
use Rattle.schedule.specs.Drafts.{plan_of}
use Rattle.schedule.specs.Checks.{checked_plan}
use Rattle.schedule.proofs.Chains.{early_past}
use Rattle.schedule.proofs.checked.CheckedPlan.reach_of.Goals as goal

pub returns : goal.returns
returns c =
    let P = checked_plan c.args.self.now in
    let x = c.in_ok-hop.hop in
    let same = c.in_ok-hop.ensures in
    let flows = ap (λ (d : Draft). flow_count (plan_of d)) same.0 in
    let hops : hop_count (plan_of x.draft.now) x.flow ≡ hop_count P c.args.flow = (λ i. hop_count (plan_of (same.0 i)) (same.1 i)) in
    let has : HasHop P c.args.flow c.args.hop = (omega (arith, same.1, x.there.0), omega (arith, same.2, x.there.1)) in
    let keeps = c.args.self.now.good c.args.flow has.0 in
    let early : c.early.result ≡ early_at P c.args.flow c.args.hop = c.early.ensures.is ∙ (λ i. early_at (plan_of (same.0 i)) (same.1 i) (same.2 i)) in
    let late : c.late.result ≡ late_at P c.args.flow c.args.hop = c.late.ensures.is ∙ (λ i. late_at (plan_of (same.0 i)) (same.1 i) (same.2 i)) in (
      has,
      record {
        is = (λ i. (early i - P.error, late i));
        released = omega (arith, early_past P c.args.flow keeps c.args.hop (omega (arith, has.1)));
        waits = omega (arith, (keeps c.args.hop has.1).reached);
      },
    )
