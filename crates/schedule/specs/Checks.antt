-- The check, and what a checked plan answers.
use Rattle.std.specs.Prelude.{◌≡◌, ℕ, ◌+◌, ◌*◌, ◌≤◌, Some, None, Ok, Err, Option, Result, nat_lt}
use Rattle.schedule.specs.declared.draft.Draft.{Draft}
use Rattle.schedule.specs.declared.checked.CheckedPlan.{CheckedPlan}
use Rattle.schedule.specs.declared.refusal.Fault.{Fault}
use Rattle.schedule.specs.declared.refusal.CertificateRefusal.{CertificateRefusal}
use Rattle.schedule.specs.Numbers.{certificate_number}
use Rattle.schedule.specs.Limits.{unless}
use Rattle.schedule.specs.Plan.{Plan, HasHop, flow_count, release_of, deadline_of, offset_at, reach_of, certificate_of}
use Rattle.schedule.specs.Rules.{Good, FirstFault}
use Rattle.schedule.specs.Drafts.{plan_of}

-- the plan that a checked plan holds
abbrev pub checked_plan : CheckedPlan → Plan
checked_plan p = plan_of p.draft

-- the check turns a good draft into a checked plan, or gives the draft back with its first fault
abbrev pub Checks : Draft → Result CheckedPlan (Fault × Draft) → Type 0
Checks d (Ok p) = (p.draft ≡ d) × Good (plan_of d)
Checks d (Err e) = (e.1 ≡ d) × FirstFault (plan_of d) e.0

-- the number with which a certificate is refused, if it is
abbrev pub certificate_refused : Plan → ℕ → Option ℕ
certificate_refused P f = unless (nat_lt f (flow_count P)) 22 None

-- the transits of a flow: its certificate; the two lie twice the clock error apart, and neither passes the deadline
pub record Transits (P : Plan) (f : ℕ) (c : ℕ × ℕ) : Type 0 where
  pub is : c ≡ certificate_of P f
  pub spread : c.1 ≡ c.0 + 2 * P.error
  pub in_time : c.1 ≤ deadline_of P f

-- a certificate has the transits of the flow, or the number by which it is refused
abbrev pub Certifies : Plan → ℕ → Result (ℕ × ℕ) CertificateRefusal → Type 0
Certifies P f (Ok c) = (certificate_refused P f ≡ None) × Transits P f c
Certifies P f (Err e) = certificate_refused P f ≡ Some (certificate_number e)

-- the reach of a hop: the frame is not there before its release, and it is there before its window begins by any clock
pub record Reach (P : Plan) (f h : ℕ) (r : ℕ × ℕ) : Type 0 where
  pub is : r ≡ reach_of P f h
  pub released : release_of P f ≤ r.0
  pub waits : r.1 + P.error ≤ offset_at P f h

-- there is one for each hop, and no other
abbrev pub Reaches : Plan → ℕ → ℕ → Option (ℕ × ℕ) → Type 0
Reaches P f h (Some r) = HasHop P f h × Reach P f h r
Reaches P f h None = HasHop P f h → ⊥
