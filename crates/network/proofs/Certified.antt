-- A certificate, from the last hop.
use Rattle.std.proofs.Common.{◌≡◌, ℕ, zero, suc, ◌+◌, ◌-◌, ◌<◌, ◌≤◌, sym, ap, inl, inr, arith}
use Rattle.std.proofs.lemmas.Bool.{cases_eq}
use Rattle.schedule.specs.Plan.{Plan, flow_count, hop_count, release_of, offset_at, crossed_at, early_at, late_at, certificate_of}
use Rattle.network.specs.Lawful.{Fit}

module _ (P : Plan) (f h : ℕ) (last : suc h ≡ hop_count P f) where
  pub least_is : (certificate_of P f).0 ≡ crossed_at P f h - P.error - release_of P f
  least_is = ap (λ k. early_at P f k - P.error - release_of P f) (sym last)

  pub greatest_is : (certificate_of P f).1 ≡ crossed_at P f h + P.error - release_of P f
  greatest_is = ap (λ k. late_at P f k - release_of P f) (sym last)

module _ (P : Plan) (fit : Fit P) (f : ℕ) (fi : f < flow_count P) where
  -- a frame is released before each of its windows
  pub release_le : (h : ℕ) → h < hop_count P f → release_of P f + P.error ≤ offset_at P f h
  release_le zero hi = omega (arith, (fit.good f fi 0 hi).reached)
  release_le (suc h) hi = omega (arith, (fit.good f fi (suc h) hi).reached, release_le h (omega arith))

  -- the windows of a flow come one after another
  pub climbs : (h k : ℕ) → h ≤ k → k < hop_count P f → offset_at P f h ≤ offset_at P f k
  climbs h zero l ki = let e : h ≡ 0 = omega arith in rw e (omega arith)
  climbs h (suc k) l ki = elim (cases_eq h (suc k)) [
    | inl e ↦ rw e (omega arith)
    | inr e ↦ omega (arith, climbs h k (omega arith) (omega arith), (fit.good f fi (suc k) ki).reached)
  ]
