-- What is said of a line that is no call.
use Rattle.std.specs.Prelude.{ℕ, List, codes}
use Rattle.scenario.specs.declared.call.Problem.{Problem}
use Rattle.scenario.specs.declared.call.Problem.TheVariants.{UnknownCall, MissingWord, UnexpectedWord, NotANumber, NumberTooLarge, OutOfMemory}

-- a problem in plain words
abbrev pub wording : Problem → List ℕ
wording UnknownCall = codes "unknown call"
wording MissingWord = codes "a word is missing"
wording UnexpectedWord = codes "a word that does not belong there"
wording NotANumber = codes "not a number"
wording NumberTooLarge = codes "a number that does not fit 64 bits"
wording OutOfMemory = codes "out of memory"
