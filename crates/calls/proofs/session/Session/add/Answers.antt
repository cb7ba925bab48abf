use Rattle.std.proofs.Common.{Ok, Option, sym, refl, subst}
use Rattle.schedule.specs.declared.draft.Draft.{Draft}
use Rattle.calls.specs.declared.reply.Reply.TheVariants.{Added}
use Rattle.calls.specs.Sessions.{AddsTo, with_draft}
use Rattle.calls.proofs.session.Session.add.Goals as goal

pub returns : goal.returns
returns c =
    let s = c.args.self.now in
    let r = c.args.request in
    subst (λ (o : Option Draft). AddsTo o s r.release r.octets r.deadline r.route.now c.args.offsets.now (Ok (Added c.in_ok-flow.flow)) (with_draft s c.add.new.self))
    (sym c.in-Some.is) (c.in_ok-flow.flow, c.add.new.self, c.in_ok-flow.ensures, refl, refl)
