-- What clocks read, in ticks.
use Rattle.std.specs.Prelude.{ℕ, ◌+◌, ◌-◌, ◌*◌, ◌/◌, ◌%◌, ◌^◌, ◌≤◌, min, ℤ, pos, negsuc}

-- every clock stands still past 2^48: it goes on reading what it read then
abbrev pub upto : ℕ → ℕ
upto t = min t (2 ^ 48)

-- t moved by a signed number, stopping at 0
abbrev pub moved_by : ℤ → ℕ → ℕ
moved_by (pos n) t = t + n
moved_by (negsuc n) t = t - (n + 1)

-- the size of a signed number
abbrev pub size : ℤ → ℕ
size (pos n) = n
size (negsuc n) = n + 1

-- the reading of a stepped clock: m behind the true tick, one more every k ticks until it is m ahead, and again
abbrev pub steps : ℕ → ℕ → ℕ → ℕ
steps m k t = t - m + (t / k) % (2 * m + 1)

-- how far apart two ticks are
abbrev pub apart : ℕ → ℕ → ℕ
apart t r = (t - r) + (r - t)

-- a reading r at the true tick t is off by at most b
pub record Near (b t r : ℕ) : Type 0 where
  pub late : t ≤ r + b
  pub early : r ≤ t + b
