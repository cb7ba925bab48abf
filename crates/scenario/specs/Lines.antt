-- What a line asks for: its words read into a call, or the problem that it has.
use Rattle.std.specs.Prelude.{◌≡◌, ℕ, Bool, true, false, cond, ◌⊎◌, List, [], ◌∷◌, is_ok, Some, None, Ok, Err, MatchResult, vec_items, codes, Option, Result}
use Rattle.std.specs.Option.{ok_or, option_map, unwrap_or}
use Rattle.std.specs.Str.{bytes_eq}
use Rattle.scenario.specs.declared.call.FlowNumbers.{FlowNumbers}
use Rattle.scenario.specs.declared.call.Call.{Call}
use Rattle.scenario.specs.declared.call.Call.TheVariants.{Open, Place, Add, Check, Certificate, Gates}
use Rattle.scenario.specs.declared.line.Name.{Name}
use Rattle.scenario.specs.declared.call.Problem.{Problem}
use Rattle.scenario.specs.declared.call.Problem.TheVariants.{UnknownCall, MissingWord, UnexpectedWord, OutOfMemory}
use Rattle.scenario.specs.Texts.{uncommented, words_of, number_of}

infixr 10 ◌then◌
-- a word, by its bytes
abbrev pub Word : Type 0
Word = List ℕ

-- what is asked for: a call, with lists of numbers
pub data Asked : Type 0 where
  opens : (cycle error extension : ℕ) (delays : List ℕ) → Asked
  places : (release octets deadline : ℕ) (route : List ℕ) → Asked
  adds : (release octets deadline : ℕ) (route offsets : List ℕ) → Asked
  checks : Asked
  certifies : (flow : ℕ) → Asked
  shows_gates : (port : ℕ) → Asked

-- what a call asks for
abbrev pub asks : Call → Asked
asks (Open c e x ds) = opens c e x (vec_items ds)
asks (Place f) = places f.release f.octets f.deadline (vec_items f.route)
asks (Add f os) = adds f.release f.octets f.deadline (vec_items f.route) (vec_items os)
asks Check = checks
asks (Certificate f) = certifies f
asks (Gates p) = shows_gates p

-- reading goes on behind what was read, unless there was a problem
abbrev pub ◌then◌ : {X Y : Type 0} → Result X Problem → (X → Result Y Problem) → Result Y Problem
◌then◌ (Ok x) f = f x
◌then◌ (Err p) f = Err p

-- the word k; the words behind it
abbrev pub keyword : Word → List Word → Result (List Word) Problem
keyword k [] = Err MissingWord
keyword k (w ∷ ws) = cond (bytes_eq w k) (Ok ws) (Err UnexpectedWord)

-- a number; the words behind it
abbrev pub numeral : List Word → Result (ℕ × List Word) Problem
numeral [] = Err MissingWord
numeral (w ∷ ws) = number_of w then λ n. Ok (n, ws)

-- the word k and a number; the words behind them
abbrev pub field : Word → List Word → Result (ℕ × List Word) Problem
field k ws = keyword k ws then numeral

-- numbers to the end of the line
abbrev pub numerals : List Word → Result (List ℕ) Problem
numerals [] = Ok []
numerals (w ∷ ws) = number_of w then λ n. numerals ws then λ ns. Ok (n ∷ ns)

-- numbers up to the word k; the words behind it
abbrev pub numerals_until : Word → List Word → Result (List ℕ × List Word) Problem
numerals_until k [] = Err MissingWord
numerals_until k (w ∷ ws) = cond (bytes_eq w k) (Ok ([], ws)) (number_of w then λ n. numerals_until k ws then λ r. Ok (n ∷ r.0, r.1))

-- numbers up to the word `stop`, or where there is none to the end of the line; the words behind them
abbrev pub numerals_to : Option Word → List Word → Result (List ℕ × List Word) Problem
numerals_to None ws = numerals ws then λ ns. Ok (ns, [])
numerals_to (Some k) ws = numerals_until k ws

-- no word is left
abbrev pub ends : List Word → Result (Unit {0}) Problem
ends [] = Ok tt
ends (w ∷ ws) = Err UnexpectedWord

-- cycle C error E extension X delays D ..
abbrev pub open_form : List Word → Result Asked Problem
open_form ws =
    field (codes "cycle") ws then λ c.
    field (codes "error") c.1 then λ e.
    field (codes "extension") e.1 then λ x.
    keyword (codes "delays") x.1 then λ rest.
    numerals rest then λ ds.
    Ok (opens c.0 e.0 x.0 ds)

-- the release, octets, deadline and route of a flow
abbrev pub numbers_of : FlowNumbers → ℕ × ℕ × ℕ × List ℕ
numbers_of f = (f.release, f.octets, f.deadline, vec_items f.route)

-- release R octets N deadline L route P .. up to the word `stop`, or to the end of the line; the words behind it
abbrev pub flow_form : Option Word → List Word → Result ((ℕ × ℕ × ℕ × List ℕ) × List Word) Problem
flow_form stop ws =
    field (codes "release") ws then λ r.
    field (codes "octets") r.1 then λ n.
    field (codes "deadline") n.1 then λ l.
    keyword (codes "route") l.1 then λ rest.
    numerals_to stop rest then λ ps.
    Ok ((r.0, n.0, l.0, ps.0), ps.1)

-- release R octets N deadline L route P ..
abbrev pub place_form : List Word → Result Asked Problem
place_form ws =
    field (codes "release") ws then λ r.
    field (codes "octets") r.1 then λ n.
    field (codes "deadline") n.1 then λ l.
    keyword (codes "route") l.1 then λ rest.
    numerals rest then λ ps.
    Ok (places r.0 n.0 l.0 ps)

-- release R octets N deadline L route P .. offsets O ..
abbrev pub add_form : List Word → Result Asked Problem
add_form ws =
    field (codes "release") ws then λ r.
    field (codes "octets") r.1 then λ n.
    field (codes "deadline") n.1 then λ l.
    keyword (codes "route") l.1 then λ rest.
    numerals_until (codes "offsets") rest then λ ps.
    numerals ps.1 then λ os.
    Ok (adds r.0 n.0 l.0 ps.0 os)

-- a number and nothing else
abbrev pub number_form : List Word → Result ℕ Problem
number_form ws =
    numeral ws then λ n.
    ends n.1 then λ _.
    Ok n.0

-- the call that a word names
abbrev pub name_of : Word → Option Name
name_of w =
    cond (bytes_eq w (codes "open")) (Some Name.Open)
    (cond (bytes_eq w (codes "place")) (Some Name.Place)
    (cond (bytes_eq w (codes "add")) (Some Name.Add)
    (cond (bytes_eq w (codes "check")) (Some Name.Check)
    (cond (bytes_eq w (codes "certificate")) (Some Name.Certificate)
    (cond (bytes_eq w (codes "gates")) (Some Name.Gates)
    None)))))

-- the words behind a call's name
abbrev pub call_form : Name → List Word → Result Asked Problem
call_form Name.Open ws = open_form ws
call_form Name.Place ws = place_form ws
call_form Name.Add ws = add_form ws
call_form Name.Check ws = ends ws then λ _. Ok checks
call_form Name.Certificate ws = number_form ws then λ flow. Ok (certifies flow)
call_form Name.Gates ws = number_form ws then λ port. Ok (shows_gates port)

-- the words of a line: none, or a call
abbrev pub words_form : List Word → Result (Option Asked) Problem
words_form [] = Ok None
words_form (w ∷ ws) =
    ok_or (name_of w) UnknownCall then λ name.
    call_form name ws then λ a.
    Ok (Some a)

-- a line, by its bytes
abbrev pub line_form : List ℕ → Result (Option Asked) Problem
line_form bs = words_form (words_of (uncommented bs))

-- the calls that have lists of numbers
abbrev pub has_lists : Name → Bool
has_lists Name.Open = true
has_lists Name.Place = true
has_lists Name.Add = true
has_lists Name.Check = false
has_lists Name.Certificate = false
has_lists Name.Gates = false

-- the words of a line begin such a call
abbrev pub words_have_lists : List Word → Bool
words_have_lists [] = false
words_have_lists (w ∷ ws) = unwrap_or (option_map has_lists (name_of w)) false

-- a line begins such a call
abbrev pub line_has_lists : List ℕ → Bool
line_has_lists bs = words_have_lists (words_of (uncommented bs))

-- a number is read first
abbrev pub begins_number : List Word → Bool
begins_number [] = false
begins_number (w ∷ ws) = is_ok (number_of w)

-- the problem p is the one found; or memory was wanting, which only lists take
abbrev pub Fails : {X : Type 0} → Problem → Result X Problem → Bool → Type 0
Fails p found lists = (found ≡ Err p) ⊎ ((p ≡ OutOfMemory) × (lists ≡ true))

-- a reading gave what the words say, a value as `view` shows it or a problem; or memory was wanting, which only lists take
abbrev pub Reads : {X Y : Type 0} → (X → Y) → Result X Problem → Result Y Problem → Bool → Type 0
Reads view r found lists = MatchResult r (λ x. found ≡ Ok (view x)) (λ p. Fails p found lists)
