-- A waiting line: entries in a ring over slots that the caller lends.
use Rattle.std.specs.Prelude.{ℕ, ◌+◌, ◌-◌, min, cond, List, [], ◌∷◌, ◌++◌, length, take, drop, Some, None, Option, ◌==◌, nat_lt, slice_set}
use Rattle.egress.specs.declared.line.Line.{Line}

-- a line in which nothing waits
abbrev pub empty_line : Line
empty_line = record { head = 0; count = 0 }

-- the slot where a line begins: a head beyond the slots stands for slot 0
abbrev pub begins : ℕ → Line → ℕ
begins room l = cond (nat_lt l.head room) l.head 0

-- how many wait: never more than there are slots
abbrev pub number : ℕ → Line → ℕ
number room l = min l.count room

-- the slot k after slot h, going on at slot 0 after the last
abbrev pub round : ℕ → ℕ → ℕ → ℕ
round room h k = cond (nat_lt (h + k) room) (h + k) (h + k - room)

module _ {T : Type 0} where
  -- n entries from slot h on, going on at slot 0 after the last
  abbrev pub ring : List T → ℕ → ℕ → List T
  ring slots h n = take n (drop h (slots ++ slots))

  -- what waits, the first first
  unfoldable pub waits : List T → Line → List T
  waits slots l = ring slots (begins (length slots) l) (number (length slots) l)

  -- the first of those that wait
  abbrev pub front : List T → Option T
  front [] = None
  front (x ∷ xs) = Some x

  -- those after the first
  abbrev pub rest : List T → List T
  rest [] = []
  rest (x ∷ xs) = xs

  -- one more at the end, if there is room
  abbrev pub joined : ℕ → T → List T → List T
  joined room x waiting = cond (nat_lt (length waiting) room) (waiting ++ x ∷ []) waiting

  -- the slots once x has joined: a full line writes nothing
  abbrev pub stored : List T → Line → T → List T
  stored slots l x = cond (nat_lt (number (length slots) l) (length slots)) (slice_set slots (round (length slots) (begins (length slots) l) (number (length slots) l)) x) slots

-- a line once an entry has joined: a full one stays as it is
abbrev pub longer : ℕ → Line → Line
longer room l = cond (nat_lt (number room l) room) (record { head = begins room l; count = number room l + 1 }) l

-- a line once its first has left: an empty one stays as it is
abbrev pub shorter : ℕ → Line → Line
shorter room l = cond (number room l == 0) l (record { head = round room (begins room l) 1; count = number room l - 1 })
