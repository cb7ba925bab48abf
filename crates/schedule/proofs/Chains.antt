-- Along the hops of a flow that keeps the rules, a frame comes after its release and before its deadline.
use Rattle.std.proofs.Common.{◌≡◌, ℕ, zero, suc, ◌+◌, ◌-◌, ◌≤◌, arith}
use Rattle.schedule.specs.Plan.{Plan, hop_count, release_of, crossed_at, late_at, early_at}
use Rattle.schedule.specs.Rules.{FlowKeeps}
use Rattle.schedule.specs.Checks.{Transits}

module _ (P : Plan) (f : ℕ) (keeps : FlowKeeps P f) where
  pub late_past : (h : ℕ) → h ≤ hop_count P f → release_of P f ≤ late_at P f h
  late_past zero lt = omega arith
  late_past (suc h) lt = let before = late_past h (omega arith) in let rule = (keeps h (omega arith)).reached in omega arith

  pub early_past : (h : ℕ) → h ≤ hop_count P f → release_of P f + P.error ≤ early_at P f h
  early_past zero lt = omega arith
  early_past (suc h) lt = let before = late_past h (omega arith) in let rule = (keeps h (omega arith)).reached in omega arith

  -- at the last hop
  module _ (h : ℕ) (last : suc h ≡ hop_count P f) where
    pub released_before : release_of P f + P.error ≤ crossed_at P f h
    released_before = early_past (suc h) (omega arith)

    pub transits_are : Transits P f (crossed_at P f h - P.error - release_of P f, crossed_at P f h + P.error - release_of P f)
    transits_are =
        let before = released_before in
        let met = (keeps h (omega arith)).meets last in
        record {
          is = (λ i. (early_at P f (last i) - P.error - release_of P f, late_at P f (last i) - release_of P f));
          spread = omega arith;
          in_time = omega arith;
        }
