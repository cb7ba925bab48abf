-- The gate octet of a port at a tick of the cycle, as the windows give it.
use Rattle.std.specs.Prelude.{ℕ, zero, suc, ◌+◌, ◌*◌, ◌/◌, ◌%◌, ◌^◌, Bool, false, cond, ◌&&◌, ◌||◌, ◌==◌, nat_le, nat_lt}
use Rattle.schedule.specs.Plan.{Plan, flow_count, hop_count, port_at, offset_at, end_at}

-- q holds of some number below n
abbrev pub some : ℕ → (ℕ → Bool) → Bool
some zero q = false
some (suc n) q = q n || some n q

-- tick x lies in the window of hop h of flow f, and the window is at port p
abbrev pub inside : Plan → ℕ → ℕ → ℕ → ℕ → Bool
inside P p x f h = port_at P f h == p && (nat_le (offset_at P f h) x && nat_lt x (end_at P f h))

-- tick x lies in the guard band before that window, twice the clock error long
abbrev pub ahead : Plan → ℕ → ℕ → ℕ → ℕ → Bool
ahead P p x f h = port_at P f h == p && (nat_lt x (offset_at P f h) && nat_le (offset_at P f h) (x + 2 * P.error))

-- tick x lies in some window of port p
abbrev pub in_window : Plan → ℕ → ℕ → Bool
in_window P p x = some (flow_count P) (λ f. some (hop_count P f) (inside P p x f))

-- tick x lies in the guard band before some window of port p
abbrev pub in_guard : Plan → ℕ → ℕ → Bool
in_guard P p x = some (flow_count P) (λ f. some (hop_count P f) (ahead P p x f))

-- in a window class 7 alone is open, in a guard band nothing, elsewhere the classes 0 to 6
abbrev pub octet_by : Bool → Bool → ℕ
octet_by window guard = cond window 0x80 (cond guard 0x00 0x7F)

-- the octet of port p at tick x of the cycle
unfoldable pub octet_at : Plan → ℕ → ℕ → ℕ
octet_at P p x = octet_by (in_window P p x) (in_guard P p x)

-- the gate of class c is open: bit c of the octet is 1
abbrev pub opens : ℕ → ℕ → Bool
opens octet c = nat_lt c 8 && octet / 2 ^ c % 2 == 1
