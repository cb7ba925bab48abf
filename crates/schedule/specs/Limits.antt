-- The limits of what a plan is made of, as tests, and the order in which a call makes them.
use Rattle.std.specs.Prelude.{ℕ, Bool, true, cond, not, ◌&&◌, List, [], ◌∷◌, length, Some, Option, ◌==◌, nat_le, nat_lt}
use Rattle.std.specs.List.{list_all, list_any}

-- a check that failed refuses with its number n; else what the later checks say
abbrev pub unless : Bool → ℕ → Option ℕ → Option ℕ
unless passed n later = cond passed later (Some n)

-- n lies from low to high
abbrev pub within : ℕ → ℕ → ℕ → Bool
within low high n = nat_le low n && nat_le n high

-- cycle, clock error and largest extension are within their limits
abbrev pub timing_allowed : ℕ → ℕ → ℕ → Bool
timing_allowed cycle error extension = within 1000 1250000 cycle && (nat_le error 125 && nat_lt extension cycle)

-- each number is below the bound
abbrev pub each_below : ℕ → List ℕ → Bool
each_below bound ns = list_all (λ n. nat_lt n bound) ns

-- there are 1 to 16 ports, and no delay is above 25,000
abbrev pub ports_allowed : List ℕ → Bool
ports_allowed delays = within 1 16 (length delays) && each_below 25001 delays

-- release, octets and deadline of a flow are within their limits
abbrev pub flow_allowed : ℕ → ℕ → ℕ → ℕ → Bool
flow_allowed cycle release octets deadline = nat_lt release cycle && (within 64 1522 octets && within 1 1250000 deadline)

-- n is one of the numbers
abbrev pub among : ℕ → List ℕ → Bool
among n ns = list_any (λ m. m == n) ns

-- each port is below the count of ports, and none stands twice
abbrev pub ports_differ : ℕ → List ℕ → Bool
ports_differ count [] = true
ports_differ count (p ∷ ps) = nat_lt p count && (not (among p ps) && ports_differ count ps)

-- a route crosses 1 to 6 different ports of the plan
abbrev pub route_allowed : ℕ → List ℕ → Bool
route_allowed count route = within 1 6 (length route) && ports_differ count route

-- there is an offset for each hop, and each lies in the cycle
abbrev pub offsets_allowed : ℕ → List ℕ → List ℕ → Bool
offsets_allowed cycle route offsets = length offsets == length route && each_below cycle offsets
