-- What is cut off a line: one word after another, up to its comment.
use Rattle.std.proofs.Common.{◌≡◌, ℕ, ◌+◌, ◌<◌, Bool, true, false, not, cond, ◌==◌, List, [], ◌∷◌, ◌++◌, length, get_or, take, drop, Some, None, Option, IfSome, unwrap_or, refl, sym, ap, ◌∙◌, ⊎_elim, append_assoc, append-nil, arith, rules, one-add, suc, subst}
use Rattle.std.specs.Char.{encode_utf8, char_set_contains}
use Rattle.std.specs.List.{position, position_or_len}
use Rattle.std.specs.Str.{IsCharBoundary}
use Rattle.std.specs.Str.Pattern.{HasPassingCharAt, FindsPrefixBy, CutsPrefixes, IsTrimStartMatches}
use Rattle.std.proofs.lemmas.Bool.{both_ways, or_parts, cases_Bool, cases_lt, cond-true, cond-false, false_from_ne_true, le-ltb, lt-ltb}
use Rattle.std.proofs.lemmas.Bool.Decides.{nat_tests}
use Rattle.std.proofs.lemmas.List.Sums.{prefix_len-le-length, passes_at_first}
use Rattle.std.proofs.lemmas.Str.{encode_ascii, len_utf8_bounds}
use Rattle.scenario.specs.Texts.{uncommented, parts, stops, ended, words_after, words_of}

-- the words of a line from a place on
abbrev line_words : List ℕ → List (List ℕ)
line_words bs = words_of (uncommented bs)

-- the two characters that part words
gaps : (c : ℕ) → char_set_contains (32 ∷ 9 ∷ []) c ≡ parts c
gaps c = grind (arith, nat_tests)

-- what parts words is one byte, and starts no comment
gap_low : (c : ℕ) → parts c ≡ true → c < 128
gap_low c h = grind (arith, nat_tests)

gap_no_comment : (c : ℕ) → parts c ≡ true → (c == 35) ≡ false
gap_no_comment c h = grind (arith, nat_tests)

gap_encoded : (c : ℕ) → parts c ≡ true → encode_utf8 c ≡ c ∷ []
gap_encoded c h = encode_ascii c (gap_low c h)

-- what stops a word is one byte too
stop_low : (c : ℕ) → stops c ≡ true → c < 128
stop_low c h = grind (arith, nat_tests)

stop_no_gap : (c : ℕ) → stops c ≡ true → parts c ≡ false → (c == 35) ≡ true
stop_no_gap c h g = grind (arith, nat_tests)

-- a blank or a tab in front adds no word
skip_gap : (c : ℕ) (bs : List ℕ) → parts c ≡ true → line_words (c ∷ bs) ≡ line_words bs
skip_gap c bs h = ap words_of (cond-false _ _ _ (gap_no_comment c h)) ∙ cond-true _ _ _ h

-- one gap is cut off the front
cut_gap : (m : List ℕ) (n : ℕ) → HasPassingCharAt parts m 0 n → line_words m ≡ line_words (drop n m)
cut_gap m n (c, h, at) =
    let split : m ≡ c ∷ drop n m = at.split ∙ ap (λ e. e ++ drop n m) (gap_encoded c h) in
    ap line_words split ∙ skip_gap c (drop n m) h

-- what a search for a blank or a tab says of the front of a text
abbrev pub GapInFront : List ℕ → Option ℕ → Type 0
GapInFront s o = (k : ℕ → Bool) → ((c : ℕ) → char_set_contains (32 ∷ 9 ∷ []) c ≡ k c) → FindsPrefixBy k s o

-- blanks and tabs that are cut off the front add no word
cut_gaps : (ns s r : List ℕ) → CutsPrefixes GapInFront s ns r → line_words s ≡ line_words r
cut_gaps [] s r same = ap line_words (sym same)
cut_gaps (n ∷ ns) s r (m, cuts, found, rest) = cut_gaps ns s m cuts ∙ cut_gap m n (found parts gaps) ∙ ap line_words (sym rest)

-- and what is left begins with no gap
begins_inside : (o : Option ℕ) (b : ℕ) (bs : List ℕ) → GapInFront (b ∷ bs) o → IfSome o (λ n. n ≡ 0) → parts b ≡ false
begins_inside None b bs found h =
    false_from_ne_true (parts b) (λ gap. both_ways (parts b) (found parts gaps b bs (let low = gap_low b gap in search rules) (ap (λ e. e ++ bs) (sym (gap_encoded b gap)))) gap)
begins_inside (Some n) b bs found h =
    let gap = found parts gaps in
    absurd (omega (arith, len_utf8_bounds gap.0, gap.2.ends))

-- where a word stops, in a text that goes on with b
stop_here : (b : ℕ) (bs : List ℕ) → stops b ≡ true → position_or_len stops (b ∷ bs) ≡ 0
stop_here b bs h = ap (λ e. cond (not e) (1 + position_or_len stops bs) 0) h

stop_later : (b : ℕ) (bs : List ℕ) → stops b ≡ false → position_or_len stops (b ∷ bs) ≡ suc (position_or_len stops bs)
stop_later b bs h = ap (λ e. cond (not e) (1 + position_or_len stops bs) 0) h ∙ one-add (position_or_len stops bs)

-- the first k bytes of bs end the word under way, and the words behind them follow
abbrev CutAt : List ℕ → List ℕ → ℕ → Type 0
CutAt u bs k = words_after u (uncommented bs) ≡ ended (u ++ take k bs) ++ line_words (drop k bs)

-- nothing is left of the word at a comment, or at a gap
at_comment : (u bs : List ℕ) (b : ℕ) → (b == 35) ≡ true → CutAt u (b ∷ bs) 0
at_comment u bs b h =
    let none : uncommented (b ∷ bs) ≡ [] = cond-true _ _ _ h in
    ap (words_after u) none ∙ ap ended (sym (append-nil u)) ∙ sym (append-nil (ended (u ++ []))) ∙ ap (λ l. ended (u ++ []) ++ words_of l) (sym none)

at_gap : (u bs : List ℕ) (b : ℕ) → parts b ≡ true → CutAt u (b ∷ bs) 0
at_gap u bs b h =
    ap (words_after u) (cond-false _ _ _ (gap_no_comment b h)) ∙ cond-true _ _ _ h ∙ ap (λ l. ended l ++ line_words bs) (sym (append-nil u)) ∙ ap (λ l. ended (u ++ []) ++ l) (sym (skip_gap b bs h))

-- a word under way goes on to where it stops
cut_at_stop : (u bs : List ℕ) → CutAt u bs (position_or_len stops bs)
cut_at_stop u [] = ap ended (sym (append-nil u)) ∙ sym (append-nil (ended (u ++ [])))
cut_at_stop u (b ∷ bs) =
    let n = position_or_len stops bs in
    ⊎_elim
    (λ stop. subst (CutAt u (b ∷ bs)) (sym (stop_here b bs stop)) (⊎_elim (at_gap u bs b) (λ no. at_comment u bs b (stop_no_gap b stop no)) (cases_Bool (parts b))))
    (λ inside.
    let apart = or_parts (parts b) (b == 35) inside in
    subst (CutAt u (b ∷ bs)) (sym (stop_later b bs inside))
    (ap (words_after u) (cond-false _ _ _ apart.1) ∙ cond-false _ _ _ apart.0 ∙ cut_at_stop (u ++ b ∷ []) bs ∙ ap (λ l. ended l ++ line_words (drop n bs)) (append_assoc u (b ∷ []) (take n bs))))
    (cases_Bool (stops b))

-- where a word stops, as `position` gives it
pub stop_len : (t : List ℕ) (o : Option ℕ) (n : ℕ) → o ≡ position stops t → n ≡ unwrap_or o (length t) → n ≡ position_or_len stops t
stop_len t o n found is =
    let k = position_or_len stops t in
    is ∙ ap (λ p. unwrap_or p (length t)) found ∙
    ⊎_elim
    (λ lt. ap (λ p. unwrap_or p (length t)) (cond-true _ _ _ (lt-ltb k (length t) lt)))
    (λ ge. ap (λ p. unwrap_or p (length t)) (cond-false _ _ _ (le-ltb k (length t) ge)) ∙ omega (arith, prefix_len-le-length (λ x. not (stops x)) t))
    (cases_lt k (length t))

-- a text can be cut where a word stops
pub stop_boundary : (t : List ℕ) (n : ℕ) → n ≡ position_or_len stops t → IsCharBoundary t n
stop_boundary t n is = (
  omega (arith, prefix_len-le-length (λ x. not (stops x)) t),
  λ lt high.
      let low = stop_low (get_or t (position_or_len stops t) 0) (passes_at_first stops t 0 (omega arith)) in
      let same : get_or t n 0 ≡ get_or t (position_or_len stops t) 0 = ap (λ i. get_or t i 0) is in
      absurd (omega arith),
)

ended_word : (w : List ℕ) → 0 < length w → ended w ≡ w ∷ []
ended_word [] some = absurd (omega arith)
ended_word (b ∷ bs) some = refl

-- where a word stops at once behind blanks and tabs, none is left
pub none_left : (s text : List ℕ) → IsTrimStartMatches GapInFront s text → position_or_len stops text ≡ 0 → line_words s ≡ []
none_left s [] trimmed empty = cut_gaps trimmed.0.0 s [] trimmed.0.1
none_left s (b ∷ bs) trimmed empty =
    let inside = begins_inside trimmed.1.0 b bs trimmed.1.1 trimmed.1.2 in
    let stop : stops b ≡ true = ⊎_elim (λ h. h) (λ no. absurd (omega (arith, stop_later b bs no))) (cases_Bool (stops b)) in
    cut_gaps trimmed.0.0 s (b ∷ bs) trimmed.0.1 ∙ ap words_of (cond-true _ _ _ (stop_no_gap b stop inside))

-- the first word, and what is left behind it
pub first_word : (s text : List ℕ) (n : ℕ) → IsTrimStartMatches GapInFront s text → n ≡ position_or_len stops text → 0 < length (take n text) → line_words s ≡ take n text ∷ line_words (drop n text)
first_word s text n trimmed is some =
    cut_gaps trimmed.0.0 s text trimmed.0.1 ∙ subst (CutAt [] text) (sym is) (cut_at_stop [] text) ∙ ap (λ l. l ++ line_words (drop n text)) (ended_word (take n text) some)
