use Rattle.std.proofs.Common.{◌≡◌, ℕ, ◌^◌, ◌<◌, Bool}
use Rattle.network.specs.Ports.{mask_below}
use Rattle.network.proofs.port.lines.classes.Given as goal

abbrev pub invariant-loop-class : goal.invariant-loop-class
invariant-loop-class g l = (l.mask < 2 ^ l.class) × ((q : ℕ → Bool) → ((c : ℕ) (b : Bool) → c < 8 → goal.F-post g l.admits c b → b ≡ q c) → l.mask ≡ mask_below l.class q)
