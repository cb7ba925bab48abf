use Rattle.std.proofs.Common.{◌≡◌, ◌+◌, ◌++◌, map, take, vec_items, vec_len, vec_capacity}
use Rattle.calls.specs.Sessions.{offset_in}
use Rattle.calls.proofs.session.perform.push_offsets.Given as goal

abbrev pub invariant-loop-window : goal.invariant-loop-window
invariant-loop-window l =
    (vec_items l.offsets ≡ vec_items l.initial.offsets ++ map offset_in (take l.window-index l.windows))
    × (vec_len l.offsets ≡ vec_len l.initial.offsets + l.window-index)
    × (vec_capacity l.offsets ≡ vec_capacity l.initial.offsets)
