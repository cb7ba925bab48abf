use Rattle.std.proofs.Common.{◌≡◌, sym, subst, inl, inr}
use Rattle.schedule.specs.declared.refusal.BrokenRule.{BrokenRule}
use Rattle.schedule.specs.declared.refusal.BrokenRule.TheVariants.{EndTooLate, DeliveryPastCycle, DeadlineMissed}
use Rattle.schedule.specs.Rules.{Breaks}
use Rattle.schedule.specs.Drafts.{plan_of}
use Rattle.schedule.specs.Raising.{MustRise}
use Rattle.schedule.proofs.Raising.{rise_reach, hopeless_end, hopeless_delivery, hopeless_deadline}
use Rattle.schedule.proofs.draft.hop.Hop.forced_raise.Goals as goal

pub returns-in-ReachTooLate : goal.returns-in-ReachTooLate
returns-in-ReachTooLate c =
    let x = c.args.self.now in
    let P = plan_of x.draft.now in
    let broken = subst (λ (r : BrokenRule). Breaks P r x.flow x.hop) c.in-ReachTooLate.is c.requires in
    subst (MustRise P x.flow x.hop) (sym c.least_reached.ensures) (rise_reach P x.flow x.hop x.there.1 broken.2)

pub returns-in-EndTooLate : goal.returns-in-EndTooLate
returns-in-EndTooLate c =
    let x = c.args.self.now in
    let P = plan_of x.draft.now in
    let broken = λ (r : BrokenRule) (e : c.args.rule ≡ r). subst (λ (y : BrokenRule). Breaks P y x.flow x.hop) e c.requires in
    elim c.in-EndTooLate.is [
      | inl e ↦ hopeless_end P x.flow x.hop x.there.1 (broken EndTooLate e).1
      | inr (inl e) ↦ hopeless_delivery P x.flow x.hop x.there.1 (broken DeliveryPastCycle e).3
      | inr (inr e) ↦ hopeless_deadline P x.flow x.hop x.there.1 (broken DeadlineMissed e).4
    ]
