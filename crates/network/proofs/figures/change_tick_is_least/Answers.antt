use Rattle.std.proofs.Common.{ℕ, ◌+◌, ◌-◌, ◌*◌, ◌/◌, ◌<◌, ◌≤◌, refl, mod-lt, div-add-mod', arith}
use Rattle.std.proofs.lemmas.Nat.{mul-le, div_below}
use Rattle.network.proofs.figures.change_tick_is_least.Goals as goal

-- x rounded up to whole cycles is at least x, and at most every number of whole cycles that is
rounded : (x c : ℕ) → 0 < c → (x ≤ (x + (c - 1)) / c * c)
rounded x c pos = let r = mod-lt (x + (c - 1)) pos in let e = div-add-mod' (x + (c - 1)) c in omega arith

rounded_least : (x c m : ℕ) → 0 < c → x ≤ m * c → (x + (c - 1)) / c * c ≤ m * c
rounded_least x c m pos le = mul-le ((x + (c - 1)) / c) c m c (let z : (x + (c - 1)) / c < m + 1 = div_below (x + (c - 1)) c (m + 1) pos (omega arith) in omega arith) (omega arith)

pub returns : goal.returns
returns c = λ t Q A pos. record {
  cycles = (t - A + (Q.cycle - 1)) / Q.cycle;
  whole = refl;
  not_before = (let r = rounded (t - A) Q.cycle pos in omega arith);
  from_base = omega arith;
  least = λ M le. (let r = rounded_least (t - A) Q.cycle M pos (omega arith) in omega arith);
}
