-- The number that a word writes, and what `parse` makes of it.
use Rattle.std.proofs.Common.{◌≡◌, ℕ, ◌^◌, ◌<◌, ◌≤◌, true, List, [], ◌∷◌, length, Ok, Err, Result, MatchResult, ◌∙◌, sym, ap, arith, rules}
use Rattle.std.specs.Result.{IsErrAnd}
use Rattle.std.specs.Str.Parse.{ParsesUnsigned}
use Rattle.std.proofs.lemmas.Bool.{le-ltb, lt-ltb, cond-true, cond-false}
use Rattle.std.proofs.lemmas.Str.Parse.{IsNumeralModel, numerals_by_fold, parse_digits}
use Rattle.scenario.specs.declared.call.Problem.{Problem}
use Rattle.scenario.specs.declared.call.Problem.TheVariants.{NumberTooLarge}
use Rattle.scenario.specs.Texts.{digits, value_after, value_of, fitting, number_of}

-- `digits` and `value_of` are what std's lemmas on numerals speak of
pub own : IsNumeralModel (λ ds. digits ds ≡ true) value_of
own = numerals_by_fold _ (search rules) value_after (search rules)

-- digits write a number, if 64 bits hold it
pub number_of_digits : (w : List ℕ) → 0 < length w → digits w ≡ true → number_of w ≡ fitting (value_of w)
number_of_digits [] some d = absurd (omega arith)
number_of_digits (b ∷ bs) some d = cond-true _ _ _ d

-- a number of 64 bits
pub fits : (n : ℕ) → n < 2 ^ 64 → fitting n ≡ Ok n
fits n lt = cond-true _ _ _ (lt-ltb n (2 ^ 64) lt)

-- a number past 64 bits
too_large : (n : ℕ) → (n < 2 ^ 64 → ⊥) → fitting n ≡ Err NumberTooLarge
too_large n past = let le : 2 ^ 64 ≤ n = omega (arith, past) in cond-false _ _ _ (le-ltb n (2 ^ 64) le)

-- what `parse` says of digits is what they write
pub parsed : {E : Type 0} (w : List ℕ) (r : Result ℕ E) (s : Result ℕ Problem) → 0 < length w → digits w ≡ true → ParsesUnsigned 64 10 w r → MatchResult r (λ n. s ≡ Ok n) (λ e. IsErrAnd s (λ p. p ≡ NumberTooLarge)) → s ≡ number_of w
parsed {E = E} w (Ok n) s some d h m =
    let k = parse_digits own {E = E} 64 w (Ok n) h d in
    m ∙ ap Ok k.1 ∙ sym (number_of_digits w some d ∙ fits (value_of w) k.0.1)
parsed {E = E} w (Err e) (Ok n) some d h m = absurd m
parsed {E = E} w (Err e) (Err p) some d h m =
    let k = parse_digits own {E = E} 64 w (Err e) h d in
    ap Err m ∙ sym (number_of_digits w some d ∙ too_large (value_of w) (λ lt. k (some, lt)))
