-- How a gate list is written.
use Rattle.std.specs.Prelude.{ℕ, ◌/◌, ◌%◌, true, List, [], ◌∷◌, ◌++◌, codes}
use Rattle.std.specs.List.{flat_map}
use Rattle.std.specs.Fmt.{decimal, digit_glyph}
use Rattle.gates.specs.declared.entry.GateEntry.{GateEntry}

-- an octet as two hex digits, in upper case
abbrev pub hex_pair : ℕ → List ℕ
hex_pair n = digit_glyph true (n / 16) ∷ digit_glyph true (n % 16) ∷ []

-- an entry: `0x`, its octet in hex, `*`, and its ticks
abbrev pub entry_text : GateEntry → List ℕ
entry_text e = codes "0x" ++ hex_pair e.octet ++ codes "*" ++ decimal e.ticks

-- an entry behind a blank
abbrev pub next_text : GateEntry → List ℕ
next_text e = codes " " ++ entry_text e

-- the entries of a list, parted by blanks
abbrev pub list_text : List GateEntry → List ℕ
list_text [] = []
list_text (e ∷ es) = entry_text e ++ flat_map next_text es
