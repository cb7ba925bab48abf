-- How the octet at a tick, and a later tick before which it cannot change, are read off the windows one by one.
use Rattle.std.specs.Prelude.{ℕ, zero, suc, ◌-◌, ◌*◌, cond, ◌&&◌, ◌==◌, bit_and, bit_or, nat_le, nat_lt}
use Rattle.schedule.specs.Plan.{Plan, flow_count, hop_count, port_at, offset_at, end_at}
use Rattle.gates.specs.declared.list.stretch.Stretch.{Stretch}

-- an edge, if it lies after the tick and before the next one known
abbrev pub nearer : ℕ → ℕ → ℕ → ℕ
nearer tick edge next = cond (nat_lt tick edge && nat_lt edge next) edge next

-- the octet once a window is seen: it shuts the ordinary classes from its guard band on, and opens class 7 from its begin on
abbrev pub octet_with : ℕ → ℕ → ℕ → ℕ → ℕ → ℕ
octet_with tick guard begin end octet = cond (nat_le guard tick && nat_lt tick end) (cond (nat_le begin tick) (bit_or (bit_and octet 0x80) 0x80) (bit_and octet 0x80)) octet

-- the next edge once it is seen: its guard band, its begin and its end are edges
abbrev pub until_with : ℕ → ℕ → ℕ → ℕ → ℕ → ℕ
until_with tick guard begin end until = nearer tick end (nearer tick begin (nearer tick guard until))

-- what is known of the stretch from a tick on, once a window is seen
abbrev pub stretch_with : ℕ → ℕ → ℕ → ℕ → Stretch → Stretch
stretch_with tick guard begin end s = record { octet = octet_with tick guard begin end s.octet; until = until_with tick guard begin end s.until }

-- likewise for the window of hop h of flow f, which counts if it is at port p
abbrev pub stretch_at : Plan → ℕ → ℕ → ℕ → ℕ → Stretch → Stretch
stretch_at P p tick f h s = cond (port_at P f h == p) (stretch_with tick (offset_at P f h - 2 * P.error) (offset_at P f h) (end_at P f h) s) s

-- once the first n hops of flow f are seen
abbrev pub stretch_hops : Plan → ℕ → ℕ → ℕ → Stretch → ℕ → Stretch
stretch_hops P p tick f s zero = s
stretch_hops P p tick f s (suc n) = stretch_at P p tick f n (stretch_hops P p tick f s n)

-- once the first n flows are seen
abbrev pub stretch_flows : Plan → ℕ → ℕ → Stretch → ℕ → Stretch
stretch_flows P p tick s zero = s
stretch_flows P p tick s (suc n) = stretch_hops P p tick n (stretch_flows P p tick s n) (hop_count P n)

-- with no window, ordinary classes are open to the end of the cycle
abbrev pub open_stretch : Plan → Stretch
open_stretch P = record { octet = 0x7F; until = P.cycle }

-- the stretch of port p from a tick on
unfoldable pub stretch_after : Plan → ℕ → ℕ → Stretch
stretch_after P p tick = stretch_flows P p tick (open_stretch P) (flow_count P)
