-- A line's words, and the number that a word writes. Bytes are numbers, a text is the list of its bytes.
use Rattle.std.specs.Prelude.{ℕ, ◌+◌, ◌-◌, ◌*◌, ◌^◌, Bool, cond, ◌&&◌, ◌||◌, List, [], ◌∷◌, ◌++◌, Ok, Err, Result, ◌==◌, nat_le, nat_lt}
use Rattle.std.specs.List.{list_all}
use Rattle.scenario.specs.declared.words.Words.{Words}
use Rattle.scenario.specs.declared.call.Problem.{Problem}
use Rattle.scenario.specs.declared.call.Problem.TheVariants.{NotANumber, NumberTooLarge}

-- a line up to its comment, which starts at `#`
abbrev pub uncommented : List ℕ → List ℕ
uncommented [] = []
uncommented (b ∷ bs) = cond (b == 35) [] (b ∷ uncommented bs)

-- a blank or a tab parts words
abbrev pub parts : ℕ → Bool
parts b = b == 32 || b == 9

-- a word ends where words are parted, and where the comment starts
abbrev pub stops : ℕ → Bool
stops b = parts b || b == 35

-- a word that is under way ends: there is one if it has bytes
abbrev pub ended : List ℕ → List (List ℕ)
ended [] = []
ended (b ∷ bs) = (b ∷ bs) ∷ []

-- the words of a text, where w is under way as the text begins
abbrev pub words_after : List ℕ → List ℕ → List (List ℕ)
words_after w [] = ended w
words_after w (b ∷ bs) = cond (parts b) (ended w ++ words_after [] bs) (words_after (w ++ b ∷ []) bs)

-- the words of a text
abbrev pub words_of : List ℕ → List (List ℕ)
words_of bs = words_after [] bs

-- the words that a reader has still to come to
abbrev pub left : Words → List (List ℕ)
left reader = words_of (uncommented reader.rest.now)

-- a decimal digit, `0` to `9`
abbrev pub digit : ℕ → Bool
digit b = nat_le 48 b && nat_le b 57

-- nothing but digits
abbrev pub digits : List ℕ → Bool
digits bs = list_all digit bs

-- the number n with more digits written behind it
abbrev pub value_after : ℕ → List ℕ → ℕ
value_after n [] = n
value_after n (b ∷ bs) = value_after (n * 10 + (b - 48)) bs

-- the number that digits write
abbrev pub value_of : List ℕ → ℕ
value_of bs = value_after 0 bs

-- the number n, if 64 bits hold it
abbrev pub fitting : ℕ → Result ℕ Problem
fitting n = cond (nat_lt n (2 ^ 64)) (Ok n) (Err NumberTooLarge)

-- the number that a word writes: one digit or more, and 64 bits hold it
abbrev pub number_of : List ℕ → Result ℕ Problem
number_of [] = Err NotANumber
number_of (b ∷ bs) = cond (digits (b ∷ bs)) (fitting (value_of (b ∷ bs))) (Err NotANumber)
