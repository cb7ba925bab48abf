use Rattle.std.proofs.Common.{◌≡◌, true, ◌⊎◌, ◌++◌, length, Ok, vec_items}
use Rattle.std.specs.Option.{option_copied}
use Rattle.scenario.specs.Texts.{left}
use Rattle.scenario.specs.Lines.{◌then◌, begins_number, numerals_to}
use Rattle.scenario.proofs.words.Words.numbers.Given as goal

-- the words left give the numbers behind those so far
abbrev pub invariant-loop-word : goal.invariant-loop-word
invariant-loop-word l =
    (numerals_to (option_copied l.stop) (left l.initial.self) ≡ ◌then◌ (numerals_to (option_copied l.stop) (left l.self)) (λ r. Ok (vec_items l.numbers ++ r.0, r.1)))
    × ((left l.self ≡ left l.initial.self) ⊎ (begins_number (left l.initial.self) ≡ true))

abbrev pub decreases-loop-word : goal.decreases-loop-word
decreases-loop-word l = length (left l.self)
