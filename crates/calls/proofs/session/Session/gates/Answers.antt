use Rattle.std.proofs.Common.{Ok, Option, sym, refl, subst}
use Rattle.schedule.specs.declared.checked.CheckedPlan.{CheckedPlan}
use Rattle.calls.specs.declared.reply.Reply.TheVariants.{Gates}
use Rattle.calls.specs.Sessions.{GatesOf}
use Rattle.calls.proofs.session.Session.gates.Goals as goal

pub returns : goal.returns
returns c = subst (λ (o : Option CheckedPlan). GatesOf o c.args.port (Ok (Gates c.in_ok-list.list))) (sym c.in-Some.is) (c.in_ok-list.list, c.in_ok-list.ensures, refl)
