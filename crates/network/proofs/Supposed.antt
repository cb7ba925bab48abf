-- What the guarantee supposes, from the types and laws of real plans, selections and clocks.
use Rattle.std.proofs.Common.{◌≡◌, ℕ, zero, suc, ◌+◌, ◌/◌, ◌%◌, ◌^◌, ◌<◌, ◌≤◌, List, [], ◌∷◌, Option, sym, inl, inr, arith}
use Rattle.std.specs.List.{AllByRecursion}
use Rattle.std.proofs.lemmas.Bool.{cases_lt, cases_eq}
use Rattle.schedule.specs.declared.draft.Draft.{Draft}
use Rattle.schedule.specs.declared.checked.CheckedPlan.{CheckedPlan}
use Rattle.schedule.specs.Plan.{HasHop, flow_at, port_at}
use Rattle.schedule.specs.Drafts.{plan_of}
use Rattle.schedule.specs.Checks.{checked_plan}
use Rattle.schedule.proofs.Routes.{ports_apart}
use Rattle.egress.specs.Mask.{SparesSeven, Within, Picks}
use Rattle.egress.specs.Times.{Near}
use Rattle.network.specs.Lawful.{Fit, ClocksNear, Lawful, meaning}
use Rattle.network.specs.Tables.{reads}

-- two hops of a flow at one port are one hop
one_hop : (d : Draft) (f h k : ℕ) → HasHop (plan_of d) f h → HasHop (plan_of d) f k → port_at (plan_of d) f h ≡ port_at (plan_of d) f k → h ≡ k
one_hop d f h k a b e = elim (cases_eq h k) [
  | inl s ↦ s
  | inr n ↦ elim (cases_lt h k) [
    | inl l ↦ absurd (ports_apart d f a.0 h k l b.1 e)
    | inr l ↦ absurd (ports_apart d f a.0 k h (omega arith) a.1 (sym e))
  ]
]

pub fit_of : (p : CheckedPlan) → Fit (checked_plan p)
fit_of p =
    let d = p.draft in
    record {
      good = p.good;
      released = λ f lt. (d.allowed f lt).0;
      routed = λ f lt. (d.stretches f lt).0;
      present = λ f h i. (let w = d.placed ((flow_at (plan_of d) f).first + h) (omega (arith, (d.stretches f i.0).2, i.1)) in omega (arith, d.ports.ok.0));
      once = one_hop d;
    }

-- a set without class 7 has no class 7
spares : (may : ℕ) → may < 128 → (may / 2 ^ 7) % 2 ≡ 1 → ⊥
spares may lt e = omega arith

module _ {S : Type 0} (may : ℕ) (held : S → ℕ) (pick : S → ℕ → Option ℕ) (passed : S → Option ℕ → ℕ → ℕ → S)
    (spared : SparesSeven may) (within : (s : S) → Within (held s) may) (picks : (s : S) → Picks (held s) (pick s)) where
  pub lawful_of : Lawful (meaning held pick passed)
  lawful_of = record { spares = λ s i. spares may spared ((within s).among 7 i); picks = picks }

module _ {K : Type 0} (reading : K → ℕ → ℕ) (bound : K → ℕ) (near : (k : K) (t : ℕ) → bound k ≤ t → t ≤ 2 ^ 48 → Near (bound k) t (reading k t)) (error : ℕ) where
  pub all_near : (ks : List K) → AllByRecursion (λ k. bound k ≤ error) ks → ClocksNear error (reads reading ks)
  all_near [] all p t lo hi = record { late = omega arith; early = omega arith }
  all_near (k ∷ ks) all zero t lo hi = let n = near k t (omega arith) hi in record { late = omega arith; early = omega arith }
  all_near (k ∷ ks) all (suc p) t lo hi = all_near ks all.1 p t lo hi
