-- The places of a layer's moves in rows and lanes, and their certificate (own).
use Rattle.std.specs.Prelude.{◌≡◌, ℕ, ◌+◌, ◌*◌, ◌/◌, ◌%◌, min, nat_lt, Bool, true, false, if◌then◌else◌, List, map, get_or, length, Option, None, Some}
use Rattle.s2_mode.specs.Shape.{Shape}
use Rattle.s2_rows.specs.Rows.{Rows}
use Rattle.s2_matrix.specs.Total.{upto}
use Rattle.s2_matrix.specs.Code.{code_of, members}
use Rattle.s2_minsum.specs.Rows.{rotated, entry_at}
use Rattle.s2_minsum.specs.Layout.{bit_of, entries_of}
use Rattle.s2_check.specs.Moves.{Move, max_moved}
use Rattle.s2_settle.specs.Plain.{State}
use Rattle.s2_settle.specs.Settled.{move_to, moves_in}

-- the bit that an entry of layer r shows to the check in lane c; 0 without such an entry
abbrev pub shown : Rows → ℕ → ℕ → ℕ → ℕ
shown rows r c e = if nat_lt e (length (entries_of rows r)) then
    bit_of rows.shape (entry_at (entries_of rows r) e).row (rotated rows.shape.group (entry_at (entries_of rows r) e).shift c) else 0

-- the place of the target and the amount of check j
abbrev pub place_of_check : Shape → ℕ → ℕ
place_of_check s j = j % s.q * s.group + j / s.q

-- the move of check j
abbrev pub move_of : Rows → List ℕ → List ℕ → ℕ → Move
move_of rows targets amounts j =
    move_to (members (code_of rows) j) (shown rows (j % rows.shape.q) (j / rows.shape.q) (get_or targets (place_of_check rows.shape j) 0)) (min (get_or amounts (place_of_check rows.shape j) 0) max_moved)

abbrev pub moves_of : Rows → List ℕ → List ℕ → List Move
moves_of rows targets amounts = map (move_of rows targets amounts) (upto (code_of rows).checks)

-- the result of passes: a certificate or none
abbrev pub Finds : Rows → Option State → Bool → List Move → Type 0
Finds rows None found ms = found ≡ false
Finds rows (Some s) found ms = (found ≡ true) × (ms ≡ moves_in (code_of rows) s)
