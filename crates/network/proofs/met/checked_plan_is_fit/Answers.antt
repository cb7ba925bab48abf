use Rattle.network.proofs.Supposed.{fit_of}
use Rattle.network.proofs.met.checked_plan_is_fit.Goals as goal

pub returns : goal.returns
returns c = fit_of c.args.plan.now
