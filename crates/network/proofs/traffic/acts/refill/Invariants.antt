use Rattle.std.proofs.Common.{◌≡◌, replicate, vec_items, vec_len, vec_capacity}
use Rattle.network.specs.Tables.{blank}
use Rattle.network.proofs.traffic.acts.refill.Given as goal

abbrev pub invariant-loop-i : goal.invariant-loop-i
invariant-loop-i l = (vec_items l.rows ≡ replicate l._i blank) × (vec_len l.rows ≡ l._i) × (vec_capacity l.rows ≡ vec_capacity l.initial.rows)
