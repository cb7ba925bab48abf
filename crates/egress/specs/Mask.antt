-- Sets of the eight classes as masks: class c is in a set if bit c is 1.
use Rattle.std.specs.Prelude.{◌≡◌, ℕ, ◌-◌, ◌/◌, ◌%◌, ◌^◌, ◌<◌, Bool, false, cond, Some, None, Option, ◌==◌, bit_and}
use Rattle.std.specs.Int.Count.{count_leading_zeros}

-- class c is in the set a
abbrev pub In : ℕ → ℕ → Type 0
In c a = (a / 2 ^ c) % 2 ≡ 1

-- whether class c is in the set a
abbrev pub has : ℕ → ℕ → Bool
has a c = (a / 2 ^ c) % 2 == 1

-- whether class c is the one on the wire
abbrev pub sends : Option ℕ → ℕ → Bool
sends None c = false
sends (Some d) c = d == c

-- the classes of a that are not in h
abbrev pub left : ℕ → ℕ → ℕ
left a h = bit_and a (255 - h)

-- the highest class of a set, if it has one
abbrev pub highest : ℕ → Option ℕ
highest a = cond (a == 0) None (Some (7 - count_leading_zeros 8 a))

-- bit 7 of a mask of classes is clear: class 7 is not among them
abbrev pub SparesSeven : ℕ → Type 0
SparesSeven may = may < 128

-- h is a set of classes that are all in may
pub record Within (h may : ℕ) : Type 0 where
  pub mask : h < 256
  pub among : (c : ℕ) → In c h → In c may

-- what a selection that holds back h may reply to each available set a:
-- none exactly if every class of a is held back, else a class of a that is not
pub record Picks (h : ℕ) (pick : ℕ → Option ℕ) : Type 0 where
  pub none : (a : ℕ) → a < 256 → pick a ≡ None → (c : ℕ) → In c a → In c h
  pub only : (a : ℕ) → a < 256 → ((c : ℕ) → In c a → In c h) → pick a ≡ None
  pub class : (a c : ℕ) → a < 256 → pick a ≡ Some c → (c < 8) × In c a × (In c h → ⊥)
