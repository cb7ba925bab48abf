-- A line that is written is read back.
use Rattle.std.proofs.Common.{◌≡◌, ℕ, ◌^◌, ◌<◌, Bool, true, false, not, ◌&&◌, ◌||◌, eqb, List, [], ◌∷◌, ◌++◌, map, length, Some, Ok, codes, decimal, Result, sym, refl, ap, ◌∙◌, subst, ⊎_elim, append_assoc, append-nil, arith, rules}
use Rattle.std.specs.List.{AllByRecursion, list_all}
use Rattle.std.specs.Str.{bytes_eq}
use Rattle.std.proofs.lemmas.Fmt.{decimal_nonempty, digits_decimal, digits_value-decimal}
use Rattle.std.proofs.lemmas.Slice.Eq.{bytes_eq-Decides}
use Rattle.std.proofs.lemmas.Bool.{and_parts, not-true, or_parts, cond-true, cond-false, both_ways, cases_Bool}
use Rattle.std.proofs.lemmas.Bool.Decides.{nat_tests}
use Rattle.scenario.specs.declared.call.Problem.{Problem}
use Rattle.scenario.specs.Texts.{uncommented, parts, ended, words_after, words_of, digit, digits, value_of, fitting, number_of}
use Rattle.scenario.specs.Lines.{Word, Asked, opens, places, adds, checks, certifies, shows_gates, ◌then◌, numerals, numerals_until, words_form}
use Rattle.scenario.specs.Written.{spelled, spaced, numbers_in, ReadsBack}
use Rattle.scenario.proofs.Numbers.{own, fits, number_of_digits}

-- a byte that neither parts words nor starts a comment
abbrev plain_byte : ℕ → Bool
plain_byte b = not (parts b || eqb b 35)

abbrev plain : List ℕ → Bool
plain = list_all plain_byte

-- a word that can stand on a line
abbrev proper : Word → Bool
proper [] = false
proper (b ∷ bs) = plain (b ∷ bs)

abbrev AllProper : List Word → Type 0
AllProper = AllByRecursion (λ w. proper w ≡ true)

-- a plain word goes into the word under way, which ends at the blank
passes : (u w rest : List ℕ) → plain w ≡ true → words_after u (uncommented (w ++ 32 ∷ rest)) ≡ ended (u ++ w) ++ words_of (uncommented rest)
passes u [] rest h = ap (λ l. ended l ++ words_of (uncommented rest)) (sym (append-nil u))
passes u (b ∷ bs) rest h =
    let both = and_parts (plain_byte b) (plain bs) h in
    let apart = or_parts (parts b) (eqb b 35) (not-true _ both.0) in
    ap (words_after u) (cond-false _ _ _ apart.1) ∙ cond-false _ _ _ apart.0 ∙ passes (u ++ b ∷ []) bs rest both.1 ∙ ap (λ l. ended l ++ words_of (uncommented rest)) (append_assoc u (b ∷ []) bs)

proper_plain : (w : Word) → proper w ≡ true → (plain w ≡ true) × (ended w ≡ w ∷ [])
proper_plain [] h = absurd (both_ways false refl h)
proper_plain (b ∷ bs) h = (h, refl)

-- the words of a spaced line are those that were written
pub spaced_words : (ws : List Word) → AllProper ws → words_of (uncommented (spaced ws)) ≡ ws
spaced_words [] h = refl
spaced_words (w ∷ ws) h =
    let p = proper_plain w h.0 in
    passes [] w (spaced ws) p.0 ∙ ap (λ l. l ++ words_of (uncommented (spaced ws))) p.1 ∙ ap (λ l. w ∷ l) (spaced_words ws h.1)

digit_plain : (b : ℕ) → digit b ≡ true → plain_byte b ≡ true
digit_plain b h = grind (arith, nat_tests)

digits_plain : (w : Word) → digits w ≡ true → plain w ≡ true
digits_plain [] h = refl
digits_plain (b ∷ bs) h =
    let both = and_parts (digit b) (digits bs) h in
    ap (λ t. t && plain bs) (digit_plain b both.0) ∙ digits_plain bs both.1

some_number : (w : Word) (n : ℕ) → 0 < length w → digits w ≡ true → value_of w ≡ n → n < 2 ^ 64 → number_of w ≡ Ok n
some_number w n some d v lt = number_of_digits w some d ∙ ap fitting v ∙ fits n lt

-- a number that is printed is read back
pub number_back : (n : ℕ) → n < 2 ^ 64 → number_of (decimal n) ≡ Ok n
number_back n lt = some_number (decimal n) n (decimal_nonempty n lt) (digits_decimal own n lt) (digits_value-decimal own n lt) lt

some_proper : (w : Word) → 0 < length w → digits w ≡ true → proper w ≡ true
some_proper [] some d = absurd (omega arith)
some_proper (b ∷ bs) some d = digits_plain (b ∷ bs) d

number_proper : (n : ℕ) → n < 2 ^ 64 → proper (decimal n) ≡ true
number_proper n lt = some_proper (decimal n) (decimal_nonempty n lt) (digits_decimal own n lt)

-- of two lists joined, each
all_parts : (xs ys : List ℕ) → AllByRecursion (λ n. n < 2 ^ 64) (xs ++ ys) → AllByRecursion (λ n. n < 2 ^ 64) xs × AllByRecursion (λ n. n < 2 ^ 64) ys
all_parts [] ys h = (tt, h)
all_parts (x ∷ xs) ys h = let rest = all_parts xs ys h.1 in ((h.0, rest.0), rest.1)

-- a list of numbers to the end of the line
numerals_back : (ns : List ℕ) → AllByRecursion (λ n. n < 2 ^ 64) ns → numerals (map decimal ns) ≡ Ok ns
numerals_back [] h = refl
numerals_back (n ∷ ns) h =
    ap (λ r. ◌then◌ r (λ m. ◌then◌ (numerals (map decimal ns)) (λ ms. Ok (m ∷ ms)))) (number_back n h.0) ∙ ap (λ r. ◌then◌ r (λ ms. Ok (n ∷ ms))) (numerals_back ns h.1)

-- a number is no keyword
other_word : (n : ℕ) (k : Word) → n < 2 ^ 64 → digits k ≡ false → bytes_eq (decimal n) k ≡ false
other_word n k lt no_number =
    ⊎_elim
    (λ same. absurd (both_ways (digits k) no_number (ap digits (sym ((bytes_eq-Decides (decimal n) k).0 same)) ∙ digits_decimal own n lt)))
    (λ other. other)
    (cases_Bool (bytes_eq (decimal n) k))

-- the numbers xs in front of those that are read up to a keyword
abbrev in_front_until : List ℕ → List ℕ × List Word → Result (List ℕ × List Word) Problem
in_front_until xs q = Ok (xs ++ q.0, q.1)

-- a list of numbers up to a keyword
until_back : (k : Word) (ns : List ℕ) (ws : List Word) → digits k ≡ false → AllByRecursion (λ n. n < 2 ^ 64) ns → numerals_until k (map decimal ns ++ k ∷ ws) ≡ Ok (ns, ws)
until_back k [] ws no_number h = cond-true _ _ _ ((bytes_eq-Decides k k).1 refl)
until_back k (n ∷ ns) ws no_number h =
    cond-false _ _ _ (other_word n k h.0 no_number) ∙ ap (λ r. ◌then◌ r (λ m. ◌then◌ (numerals_until k (map decimal ns ++ k ∷ ws)) (in_front_until (m ∷ [])))) (number_back n h.0) ∙ ap (λ r. ◌then◌ r (in_front_until (n ∷ []))) (until_back k ns ws no_number h.1)

-- the words that are written are read as what they were written for
words_back : (a : Asked) → AllByRecursion (λ n. n < 2 ^ 64) (numbers_in a) → words_form (spelled a) ≡ Ok (Some a)
words_back (opens c e x ds) h =
    simp (number_back c h.0, number_back e h.1.0, number_back x h.1.1.0, numerals_back ds h.1.1.1)
words_back (places r n l ps) h =
    simp (number_back r h.0, number_back n h.1.0, number_back l h.1.1.0, numerals_back ps h.1.1.1)
words_back (adds r n l ps os) h =
    let parts = all_parts ps os h.1.1.1 in
    simp (number_back r h.0, number_back n h.1.0, number_back l h.1.1.0, until_back (codes "offsets") ps (map decimal os) refl parts.0, numerals_back os parts.1)
words_back checks h = refl
words_back (certifies f) h = simp (number_back f h.0)
words_back (shows_gates p) h = simp (number_back p h.0)

-- numbers are words that can stand on a line
proper_numbers : (ns : List ℕ) (ws : List Word) → AllByRecursion (λ n. n < 2 ^ 64) ns → AllProper ws → AllProper (map decimal ns ++ ws)
proper_numbers [] ws h more = more
proper_numbers (n ∷ ns) ws h more = (number_proper n h.0, proper_numbers ns ws h.1 more)

proper_list : (ns : List ℕ) → AllByRecursion (λ n. n < 2 ^ 64) ns → AllProper (map decimal ns)
proper_list ns h = subst AllProper (append-nil (map decimal ns)) (proper_numbers ns [] h tt)

-- and so are all words that are written
words_proper : (a : Asked) → AllByRecursion (λ n. n < 2 ^ 64) (numbers_in a) → AllProper (spelled a)
words_proper (opens c e x ds) h = search (rules, number_proper, proper_list)
words_proper (places r n l ps) h = search (rules, number_proper, proper_list)
words_proper (adds r n l ps os) h =
    let parts = all_parts ps os h.1.1.1 in
    search (rules, number_proper, proper_list, proper_numbers)
words_proper checks h = search rules
words_proper (certifies f) h = search (rules, number_proper)
words_proper (shows_gates p) h = search (rules, number_proper)

pub reads_back : ReadsBack
reads_back a h = ap words_form (spaced_words (spelled a) (words_proper a h)) ∙ words_back a h
