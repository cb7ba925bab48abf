use Rattle.std.proofs.Common.{◌+◌, ◌<◌, length, ap, subst, arith}
use Rattle.schedule.specs.declared.draft.Draft.{Draft}
use Rattle.schedule.specs.Plan.{Plan, flow_at, flow_count}
use Rattle.schedule.specs.Raising.{MustRise, Hopeless}
use Rattle.schedule.specs.Drafts.{plan_of}
use Rattle.schedule.proofs.Rising.{rise_less, raise_none, raise_more}
use Rattle.schedule.proofs.draft.Draft.raise_offsets.Goals.{After-set_offset}
use Rattle.schedule.proofs.draft.Draft.raise_offsets.Goals as goal

pub returns-in_default-next_raise : goal.returns-in_default-next_raise
returns-in_default-next_raise c =
    let same = c.in-Some.ensures in
    let none = subst (Hopeless (plan_of c.loop-hop.self)) same.1 (subst (λ (d : Draft). Hopeless (plan_of d) c.in-Some.hop.flow) same.0 c.in_default-next_raise.ensures) in
    raise_none (plan_of c.args.self.now) c.args.flow (plan_of c.loop-hop.self) c.loop-hop.invariant none

module _ (c : goal.After-set_offset) where
  abbrev trial : Plan
  trial = plan_of c.loop-hop.self

  rise : MustRise trial c.args.flow c.in-Some-next_raise.raise.hop c.in-Some-next_raise.raise.to
  rise =
      let same = c.in-Some.ensures in
      let raise = c.in-Some-next_raise.raise in
      subst (λ f. MustRise trial f raise.hop raise.to) same.1 (subst (λ (d : Draft). MustRise (plan_of d) c.in-Some.hop.flow raise.hop raise.to) same.0 c.in-Some-next_raise.ensures.0)

  in_table : (flow_at trial c.args.flow).first + c.in-Some-next_raise.raise.hop < length trial.windows
  in_table =
      let many = ap flow_count c.loop-hop.invariant.0 in
      let s = (c.loop-hop.self.stretches c.args.flow (omega (arith, c.requires))).2 in
      omega (arith, rise.hop_in)

pub loop-hop-smaller : goal.loop-hop-smaller
loop-hop-smaller c =
    let P = plan_of c.loop-hop.self in
    let raise = c.in-Some-next_raise.raise in
    let low = subst (λ (d : Draft). raise.to < d.cycle) c.in-Some.ensures.0 c.in-Some-next_raise.ensures.1 in
    rise_less P (plan_of c.set_offset.new.self) ((flow_at P c.args.flow).first + raise.hop) raise.to c.set_offset.ensures (in_table c) (rise c).rises low

pub loop-hop-preserved : goal.loop-hop-preserved
loop-hop-preserved c =
    let raise = c.in-Some-next_raise.raise in
    raise_more (plan_of c.args.self.now) c.args.flow (plan_of c.loop-hop.self) c.loop-hop.invariant raise.hop raise.to (rise c) (in_table c) (plan_of c.set_offset.new.self) c.set_offset.ensures
