-- That each kind of clock keeps the law of clocks.
use Rattle.std.specs.Prelude.{ℕ, ◌+◌, ◌*◌, ◌/◌, ◌%◌, ◌^◌, ◌<◌, ◌≤◌, ℤ, pos, negsuc}
use Rattle.std.proofs.Common.{arith}
use Rattle.egress.specs.Times.{upto, moved_by, size, steps, Near}

-- up to the horizon the true tick is read as it is
pub exact_near : (t : ℕ) → t ≤ 2 ^ 48 → Near 0 t (upto t)
exact_near t h = record { late = omega arith; early = omega arith }

-- a tick that is moved by no more than itself is as far off as it is moved
pub moved_near : (by : ℤ) (t : ℕ) → size by ≤ t → t ≤ 2 ^ 48 → Near (size by) t (moved_by by (upto t))
moved_near (pos n) t b h = record { late = omega arith; early = omega arith }
moved_near (negsuc n) t b h = record { late = omega arith; early = omega arith }

-- the steps of a reading stay within its margin
pub steps_near : (m k t : ℕ) → m ≤ t → t ≤ 2 ^ 48 → Near m t (steps m k (upto t))
steps_near m k t b h =
    let step : (upto t / k) % (2 * m + 1) < 2 * m + 1 = omega arith in
    record { late = omega arith; early = omega arith }
