-- Lines, and what they are read as.
use Rattle.std.specs.Prelude.{◌≡◌, [], ◌∷◌, ◌++◌, Some, None, Ok, Err, codes}
use Rattle.scenario.specs.declared.call.Problem.TheVariants.{UnknownCall, MissingWord, UnexpectedWord, NotANumber, NumberTooLarge}
use Rattle.scenario.specs.Lines.{line_form, opens, places, adds, checks, certifies, shows_gates}

-- each call, a line with no words, and each problem of a line
abbrev pub Examples : Type 0
Examples =
    (line_form (codes "open cycle 10000 error 10 extension 200 delays 50 30") ≡ Ok (Some (opens 10000 10 200 (50 ∷ 30 ∷ []))))
    × (line_form (codes "open cycle 1 error 0 extension 0 delays") ≡ Ok (Some (opens 1 0 0 [])))
    × (line_form (codes "place release 0 octets 100 deadline 400 route 0 1") ≡ Ok (Some (places 0 100 400 (0 ∷ 1 ∷ []))))
    × (line_form (codes "add release 0 octets 100 deadline 400 route 0 1 offsets 20 210") ≡ Ok (Some (adds 0 100 400 (0 ∷ 1 ∷ []) (20 ∷ 210 ∷ []))))
    × (line_form (9 ∷ codes "check" ++ 9 ∷ codes "# of the draft") ≡ Ok (Some checks))
    × (line_form (codes "certificate 007#") ≡ Ok (Some (certifies 7)))
    × (line_form (codes "gates 18446744073709551615") ≡ Ok (Some (shows_gates 18446744073709551615)))
    × (line_form (codes "  # no call") ≡ Ok None)
    × (line_form (codes "checks") ≡ Err UnknownCall)
    × (line_form (codes "open cycle 10000 error") ≡ Err MissingWord)
    × (line_form (codes "add release 0 octets 100 deadline 400 route 0 1") ≡ Err MissingWord)
    × (line_form (codes "open error 10") ≡ Err UnexpectedWord)
    × (line_form (codes "check 1") ≡ Err UnexpectedWord)
    × (line_form (codes "certificate -1") ≡ Err NotANumber)
    × (line_form (codes "gates 18446744073709551616") ≡ Err NumberTooLarge)
