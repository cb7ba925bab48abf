-- Whether a tick has anything to do for the frames on their way.
use Rattle.std.specs.Prelude.{ℕ, Bool, false, List, ◌==◌}
use Rattle.std.specs.List.{list_any}
use Rattle.network.specs.declared.flight.Flight.{Flight}
use Rattle.network.specs.declared.flight.Flight.TheVariants.{Idle, Waiting, Moving}
use Rattle.network.specs.declared.row.Row.{Row}

-- the reach tick of the frame is t
abbrev pub reaches : ℕ → Flight → Bool
reaches t Idle = false
reaches t (Waiting h u) = false
reaches t (Moving h u a) = a == t

-- that of some row is
abbrev pub some_due : ℕ → List Row → Bool
some_due t rows = list_any (λ (r : Row). reaches t r.flight) rows
