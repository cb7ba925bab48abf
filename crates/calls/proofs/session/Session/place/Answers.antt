use Rattle.std.proofs.Common.{◌≡◌, ℕ, List, ◌++◌, map, Some, Ok, vec_items, Option, Result, sym, refl, ap, ◌∙◌, subst, inl}
use Rattle.std.proofs.lemmas.Result.{err_from_is_err_and}
use Rattle.schedule.specs.declared.draft.Draft.{Draft}
use Rattle.schedule.specs.Plan.{windows_of}
use Rattle.schedule.specs.Drafts.{plan_of}
use Rattle.calls.specs.declared.refusal.Refusal.{Refusal}
use Rattle.calls.specs.declared.reply.Reply.{Reply}
use Rattle.calls.specs.declared.reply.Reply.TheVariants.{Placed}
use Rattle.calls.specs.Sessions.{PlacesIn, offset_in, with_draft}
use Rattle.calls.proofs.session.Session.place.Goals as goal

pub returns-in_err-flow : goal.returns-in_err-flow
returns-in_err-flow c =
    let s = c.args.self.now in
    let q = c.args.request in
    let e = c.place.new.self in
    let (n, is, same) = err_from_is_err_and c.from_residual-in_err-flow.result c.from_residual-in_err-flow.ensures.1 in
    let told : PlacesIn (Some c.in-Some.draft) s q.release q.octets q.deadline q.route.now c.from_residual-in_err-flow.result (with_draft s e) =
    subst (λ (r : Result Reply Refusal). PlacesIn (Some c.in-Some.draft) s q.release q.octets q.deadline q.route.now r (with_draft s e)) (sym is) (inl (c.in_err-flow.field-0.0, e, c.in_err-flow.ensures, same, refl)) in
    subst (λ (o : Option Draft). PlacesIn o s q.release q.octets q.deadline q.route.now c.from_residual-in_err-flow.result (with_draft s e)) (sym c.in-Some.is) told

pub returns : goal.returns
returns c =
    let s = c.args.self.now in
    let q = c.args.request in
    let e = c.place.new.self in
    let v = c.push_offsets.new.offsets in
    let shown : vec_items v ≡ map offset_in (windows_of (plan_of e) c.in_ok-flow.flow) =
    c.push_offsets.ensures ∙ ap (λ (l : List ℕ). l ++ map offset_in c.hops.result.now) c.in_ok-offsets.ensures.items ∙ ap (map offset_in) c.hops.ensures.is in
    subst (λ (o : Option Draft). PlacesIn o s q.release q.octets q.deadline q.route.now (Ok (Placed c.in_ok-flow.flow v)) (with_draft s e)) (sym c.in-Some.is)
    (c.in_ok-flow.flow, e, v, c.in_ok-flow.ensures, shown, refl, refl)
