-- What is asked for, written as a line.
use Rattle.std.specs.Prelude.{◌≡◌, ℕ, ◌^◌, ◌<◌, List, [], ◌∷◌, ◌++◌, map, Some, Ok, codes, decimal}
use Rattle.std.specs.List.{AllByRecursion}
use Rattle.scenario.specs.Lines.{Word, Asked, opens, places, adds, checks, certifies, shows_gates, line_form}

-- the words of the line; `decimal n` is what a program prints of the number n
abbrev pub spelled : Asked → List Word
spelled (opens c e x ds) = codes "open" ∷ codes "cycle" ∷ decimal c ∷ codes "error" ∷ decimal e ∷ codes "extension" ∷ decimal x ∷ codes "delays" ∷ map decimal ds
spelled (places r n l ps) = codes "place" ∷ codes "release" ∷ decimal r ∷ codes "octets" ∷ decimal n ∷ codes "deadline" ∷ decimal l ∷ codes "route" ∷ map decimal ps
spelled (adds r n l ps os) = codes "add" ∷ codes "release" ∷ decimal r ∷ codes "octets" ∷ decimal n ∷ codes "deadline" ∷ decimal l ∷ codes "route" ∷ (map decimal ps ++ codes "offsets" ∷ map decimal os)
spelled checks = codes "check" ∷ []
spelled (certifies f) = codes "certificate" ∷ decimal f ∷ []
spelled (shows_gates p) = codes "gates" ∷ decimal p ∷ []

-- the numbers of what is asked for
abbrev pub numbers_in : Asked → List ℕ
numbers_in (opens c e x ds) = c ∷ e ∷ x ∷ ds
numbers_in (places r n l ps) = r ∷ n ∷ l ∷ ps
numbers_in (adds r n l ps os) = r ∷ n ∷ l ∷ (ps ++ os)
numbers_in checks = []
numbers_in (certifies f) = f ∷ []
numbers_in (shows_gates p) = p ∷ []

-- a text of these words, with a blank behind each
abbrev pub spaced : List Word → List ℕ
spaced [] = []
spaced (w ∷ ws) = w ++ 32 ∷ spaced ws

-- whatever is asked for, of numbers that 64 bits hold, can be written: its line is read as just that
abbrev pub ReadsBack : Type 0
ReadsBack = (a : Asked) → AllByRecursion (λ n. n < 2 ^ 64) (numbers_in a) → line_form (spaced (spelled a)) ≡ Ok (Some a)
