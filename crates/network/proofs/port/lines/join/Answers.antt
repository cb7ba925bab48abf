use Rattle.std.proofs.Common.{◌≡◌, ℕ, Bool, ◌++◌, length, take, ap, ◌∙◌, arith}
use Rattle.schedule.specs.Checks.{checked_plan}
use Rattle.egress.specs.Lines.{flows}
use Rattle.network.specs.declared.moment.Arrivals.{Arrivals}
use Rattle.network.specs.Flows.{joins}
use Rattle.network.specs.Ports.{listed}
use Rattle.network.specs.Tables.{flight_in}
use Rattle.network.proofs.port.lines.join.Goals as goal

-- flow f joins
abbrev taken : Arrivals → ℕ → ℕ → Bool
taken a p f = joins (checked_plan a.plan.now) a.t p f (flight_in a.rows.now f)

pub returns : goal.returns
returns c =
    let e : c.loop-f.f ≡ length c.args.arrivals.now.rows.now = omega arith in
    c.loop-f.invariant ∙ ap (λ n. take 16 (flows c.args.line.now ++ listed n (taken c.args.arrivals.now c.args.p))) e
