-- The header test in the search for a mode's frames (own).
use Rattle.std.specs.Prelude.{◌≡◌, ℕ, Bool, List, map, if◌then◌else◌}
use Rattle.s2_mode.specs.declared.symbols.Symbol.{Symbol}
use Rattle.s2_plframe.specs.HeaderLaws.{seen_of}
use Rattle.s2_plframe.specs.Turns.{Search, Sought, sides, found_in, behind_in}
use Rattle.s2_plframe.specs.declared.receive.found.Found.{Found}

-- The header that 90 symbols are: that of a coded frame of the mode that is sought, that of a dummy frame of any TYPE, or
-- nothing. Right after a frame, `max_header_errors` of its bits may be wrong
unfoldable pub found_as : Sought → ℕ → Bool → List Symbol → Found
found_as sought max_header_errors behind symbols =
    if behind then behind_in sought max_header_errors (map (sides sought.turns) symbols) else found_in sought (map (sides sought.turns) symbols)

-- exactly these symbols came to a search since its start
unfoldable pub Saw : Search → List Symbol → Type 0
Saw search symbols = search.seen ≡ seen_of search.sought.turns symbols
