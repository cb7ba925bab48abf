use Rattle.std.proofs.Common.{◌≡◌, ℕ, ◌+◌, ◌^◌, ◌<◌, ◌++◌, length, get_or, vec_items, vec_len, vec_capacity}
use Rattle.schedule.specs.Drafts.{windows_along}
use Rattle.schedule.proofs.draft.add.push_windows.Given as goal

-- what is written and what is still to come are the windows of the whole route
abbrev pub invariant-loop-port : goal.invariant-loop-port
invariant-loop-port l =
    let ports = l.port-iterator.a.rest.now in
    let offsets = l.port-iterator.b.rest.now in
    record {
      items : vec_items l.windows ++ windows_along ports offsets ≡ vec_items l.initial.windows ++ windows_along l.route l.offsets;
      room : vec_len l.windows + length ports ≡ vec_len l.initial.windows + length l.route;
      capacity : vec_capacity l.windows ≡ vec_capacity l.initial.windows;
      same_length : length offsets ≡ length ports;
      fits : (i : ℕ) → i < length offsets → get_or offsets i 0 < 2 ^ 32;
    }
