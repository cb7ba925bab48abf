-- The laws of a waiting line, over any kind of entry.
use Rattle.std.specs.Prelude.{◌≡◌, ℕ, ◌+◌, ◌-◌, ◌<◌, ◌≤◌, cond, List, [], ◌∷◌, ◌++◌, length, Some, nat_lt}
use Rattle.egress.specs.declared.line.Line.{Line}
use Rattle.egress.specs.Waiting.{waits, front, rest, joined, stored, longer, shorter, empty_line}

-- what is done to a line: an entry comes to join it, or the first leaves it
pub data Move (T : Type 0) : Type 0 where
  comes : T → Move T
  leaves : Move T

module _ {T : Type 0} where
  -- the list that a line of so much room holds once the moves are done
  abbrev pub held_after : ℕ → List (Move T) → List T → List T
  held_after room [] ws = ws
  held_after room (comes x ∷ ms) ws = held_after room ms (joined room x ws)
  held_after room (leaves ∷ ms) ws = held_after room ms (rest ws)

  -- the entries that were let in, in their order: those that came while there was room
  abbrev pub let_in : ℕ → List (Move T) → List T → List T
  let_in room [] ws = []
  let_in room (comes x ∷ ms) ws = cond (nat_lt (length ws) room) (x ∷ []) [] ++ let_in room ms (joined room x ws)
  let_in room (leaves ∷ ms) ws = let_in room ms (rest ws)

  -- the one or none that leaves a line
  abbrev pub leaver : List T → List T
  leaver [] = []
  leaver (x ∷ xs) = x ∷ []

  -- the entries that left, in their order
  abbrev pub gone : ℕ → List (Move T) → List T → List T
  gone room [] ws = []
  gone room (comes x ∷ ms) ws = gone room ms (joined room x ws)
  gone room (leaves ∷ ms) ws = leaver ws ++ gone room ms (rest ws)

-- the laws, for lines of entries of type T
pub record LineLaws (T : Type 0) : Type 0 where
  -- nothing waits in a new line, whatever the slots
  pub new : (slots : List T) → waits slots empty_line ≡ []
  -- never more wait than there are slots
  pub room : (slots : List T) (l : Line) → length (waits slots l) ≤ length slots
  -- an entry that joins an empty line is its first
  pub alone : (room : ℕ) (x : T) → 0 < room → front (joined room x []) ≡ Some x
  -- an entry that joins leaves the first of others where it was
  pub behind : (room : ℕ) (x y : T) (ws : List T) → front (joined room x (y ∷ ws)) ≡ Some y
  -- one more waits if there was room, else as many as before
  pub more : (room : ℕ) (x : T) (ws : List T) → length (joined room x ws) ≡ cond (nat_lt (length ws) room) (length ws + 1) (length ws)
  -- one less waits once the first has left
  pub less : (ws : List T) → length (rest ws) ≡ length ws - 1
  -- first in, first out: whatever is done, those that waited and those let in are, in their order, those that left and those that wait
  pub order : (room : ℕ) (ms : List (Move T)) (ws : List T) → ws ++ let_in room ms ws ≡ gone room ms ws ++ held_after room ms ws
  -- what a push does to slots and line is what joining does to the list
  pub pushed : (slots : List T) (l : Line) (x : T) → waits (stored slots l x) (longer (length slots) l) ≡ joined (length slots) x (waits slots l)
  -- what a take does to the line is what leaving does to the list
  pub taken : (slots : List T) (l : Line) → waits slots (shorter (length slots) l) ≡ rest (waits slots l)
