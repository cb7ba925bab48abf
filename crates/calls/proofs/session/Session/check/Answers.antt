use Rattle.std.proofs.Common.{Some, Ok, Option, refl, ap, subst}
use Rattle.schedule.specs.declared.draft.Draft.{Draft}
use Rattle.calls.specs.declared.session.Session.{Session}
use Rattle.calls.specs.declared.reply.Reply.TheVariants.{Checked}
use Rattle.calls.specs.Sessions.{ChecksOf}
use Rattle.calls.proofs.session.Session.check.Goals as goal

pub returns-in-Ok : goal.returns-in-Ok
returns-in-Ok c =
    let s = c.args.self.now in
    let after : Option Draft → Session = λ o. record { draft = o; plan = Some c.in-Ok.plan } in
    let told : ChecksOf (Some c.in-Some.draft) s (Ok Checked) (after c.take.new.self) = (c.in-Ok.plan, c.in-Ok.ensures.reply, refl, ap after c.in-Some.ensures.after) in
    subst (λ (o : Option Draft). ChecksOf o s (Ok Checked) (after c.take.new.self)) c.in-Some.ensures.value told
