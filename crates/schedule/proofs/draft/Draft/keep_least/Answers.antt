use Rattle.std.proofs.Common.{◌≡◌, ℕ, ◌≤◌, List, length, take, Some, vec_items, vec_len, sym, ap, ◌∙◌, subst, arith}
use Rattle.std.proofs.lemmas.Result.{err_from_is_err_and}
use Rattle.schedule.specs.declared.tables.Flow.{Flow}
use Rattle.schedule.specs.declared.draft.Draft.{Draft}
use Rattle.schedule.specs.declared.refusal.FlowRefusal.{FlowRefusal}
use Rattle.schedule.specs.Numbers.{flow_number}
use Rattle.schedule.specs.Plan.{Plan, flow_count}
use Rattle.schedule.specs.Drafts.{plan_of, with_flow}
use Rattle.schedule.specs.Raising.{cut_back, Raises, TablesKeep, KeepsLeast}
use Rattle.schedule.proofs.Adding.{routed_least, routed_most}
use Rattle.schedule.proofs.Lowest.{lowest, lowest_zero, lowest_length, routed, place_passes, refused_by_limits}
use Rattle.schedule.proofs.Placed.{old_again, none_fit, placed}
use Rattle.schedule.proofs.draft.Draft.keep_least.Goals.{In_ok-flow, After-raise_offsets}
use Rattle.schedule.proofs.draft.Draft.keep_least.Goals as goal

pub returns-in_err-flow : goal.returns-in_err-flow
returns-in_err-flow c =
    let d = c.args.self.now in
    let r = c.args.request in
    let told = c.in_err-flow.ensures in
    let (e, is, same) = err_from_is_err_and c.from_residual.result c.from_residual.ensures.1 in
    subst (λ x. KeepsLeast d r.release r.octets r.deadline r.route.now x c.add.new.self) (sym is)
    (refused_by_limits (plan_of d) r.release r.octets r.deadline r.route.now c.trial_hops-hops.result (omega (arith, d.timing)) c.trial_hops-hops.ensures (flow_number e) (told.0 ∙ ap (λ (x : FlowRefusal). Some (flow_number x)) (sym same)), told.1)

module _ (c : goal.In_ok-flow) where
  abbrev P : Plan
  P = plan_of c.args.self.now

  abbrev route : List ℕ
  route = c.args.request.route.now

  abbrev new : Flow
  new = record { release = c.args.request.release; octets = c.args.request.octets; deadline = c.args.request.deadline; first = length P.windows; hops = length route }

  abbrev zeros : List ℕ
  zeros = take c.trial_hops-hops.result lowest

  abbrev tried : Plan
  tried = with_flow P c.args.request.release c.args.request.octets c.args.request.deadline route zeros

  is_tried : plan_of c.add.new.self ≡ tried
  is_tried = c.in_ok-flow.ensures.2

  is_last : c.in_ok-flow.flow ≡ flow_count P
  is_last = c.in_ok-flow.ensures.1

  hops_some : 1 ≤ length route
  hops_some = routed_least (length P.ports) route (routed P c.args.request.release c.args.request.octets c.args.request.deadline route c.trial_hops-hops.result c.in_ok-flow.ensures.0)

  zeros_length : length zeros ≡ length route
  zeros_length =
      lowest_length route c.trial_hops-hops.result
      (routed_most (length P.ports) route (routed P c.args.request.release c.args.request.octets c.args.request.deadline route c.trial_hops-hops.result c.in_ok-flow.ensures.0))
      c.trial_hops-hops.ensures

module _ (c : goal.After-raise_offsets) where
  abbrev before : goal.In_ok-flow
  before = (goal.at.After-raise_offsets c).In_ok-flow

  abbrev d : Draft
  d = c.args.self.now

  abbrev after : Draft
  after = c.raise_offsets.new.self

  raised : Raises (tried before) (flow_count (P before)) c.raise_offsets.result (plan_of after)
  raised =
      subst (λ f. Raises (tried before) f c.raise_offsets.result (plan_of after)) (is_last before)
      (subst (λ (p : Plan). Raises p c.in_ok-flow.flow c.raise_offsets.result (plan_of after)) (is_tried before) c.raise_offsets.ensures)

  windows_is : c.len-windows.result ≡ length (vec_items d.windows)
  windows_is = c.len-windows.ensures ∙ d.windows.ok.0

  restored : cut_back (plan_of after) c.in_ok-flow.flow c.len-windows.result ≡ P before
  restored =
      let r = c.args.request in
      (λ i. cut_back (plan_of after) (is_last before i) (windows_is i))
      ∙ old_again (P before) d.stretches r.release r.octets r.deadline (route before) (hops_some before) (zeros before) (zeros_length before) (lowest_zero c.trial_hops-hops.result) c.raise_offsets.result (plan_of after) raised

  restorable : TablesKeep after.cycle (vec_len after.ports) (take c.in_ok-flow.flow (vec_items after.flows)) (take c.len-windows.result (vec_items after.windows))
  restorable =
      let e = restored in
      let n = after.ports.ok.0 ∙ ap (λ (p : Plan). length p.ports) e ∙ sym d.ports.ok.0 in
      subst (λ m. TablesKeep after.cycle m (take c.in_ok-flow.flow (vec_items after.flows)) (take c.len-windows.result (vec_items after.windows))) (sym n)
      (subst (λ (p : Plan). TablesKeep p.cycle (vec_len d.ports) p.flows p.windows) (sym e) (d.tables, d.allowed, d.stretches, d.placed, d.routes, d.ordered))

pub drop-trial-requires : goal.drop-trial-requires
drop-trial-requires c = restorable (goal.at.drop-trial-requires c).After-raise_offsets

pub returns-then-not-raise_offsets : goal.returns-then-not-raise_offsets
returns-then-not-raise_offsets c =
    let known = (goal.at.returns-then-not-raise_offsets c).After-raise_offsets in
    let b = before known in
    let r = c.args.request in (
      place_passes (P b) r.release r.octets r.deadline (route b) c.trial_hops-hops.result c.in_ok-flow.ensures.0,
      none_fit (P b) (d known).stretches r.release r.octets r.deadline (route b) (hops_some b) (zeros b) (zeros_length b) (lowest_zero c.trial_hops-hops.result) c.raise_offsets.result (plan_of (after known)) (raised known) c.if-not-raise_offsets.true,
      c.drop-trial.ensures ∙ restored known,
    )

pub returns : goal.returns
returns c =
    let known = (goal.at.returns c).After-raise_offsets in
    let b = before known in
    let r = c.args.request in
    let (os, least, is) =
    placed (P b) (d known).stretches r.release r.octets r.deadline (route b) (hops_some b) (zeros b) (zeros_length b) (lowest_zero c.trial_hops-hops.result) c.raise_offsets.result (plan_of (after known)) (raised known) c.if-not-raise_offsets.false in (
      place_passes (P b) r.release r.octets r.deadline (route b) c.trial_hops-hops.result c.in_ok-flow.ensures.0,
      is_last b,
      (os, least, ap plan_of c.keep.ensures ∙ is),
    )
