-- What it means that rows and lanes show a state of checks and members (own).
use Rattle.std.specs.Prelude.{◌≡◌, ℕ, ◌/◌, ◌%◌, ◌<◌, ◌≤◌, List, get_or, Bool, true, false, Option, None, Some}
use Rattle.s2_mode.specs.Shape.{code_bits}
use Rattle.s2_rows.specs.Rows.{Rows}
use Rattle.s2_matrix.specs.Code.{code_of}
use Rattle.s2_minsum.specs.Rows.{cell}
use Rattle.s2_minsum.specs.Layout.{row_of_bit, lane_of_bit, entry_count}
use Rattle.s2_settle.specs.Plain.{State, rest, word}
use Rattle.s2_settle.specs.Layer.{Held, AreLong}
use Rattle.s2_settle.specs.Placing.{shown, place_of_check}

-- of each check the amount at its place, and where it is above 0 the bit of its target
pub record ShowsMoves (rows : Rows) (targets amounts : List ℕ) (s : State) : Type 0 where
  pub amount : (j : ℕ) → j < (code_of rows).checks → get_or amounts (place_of_check rows.shape j) 0 ≡ s.amount j
  pub within : (j : ℕ) → j < (code_of rows).checks → 0 < s.amount j → get_or targets (place_of_check rows.shape j) 0 < entry_count rows (j % rows.shape.q)
  pub target : (j : ℕ) → j < (code_of rows).checks → 0 < s.amount j → shown rows (j % rows.shape.q) (j / rows.shape.q) (get_or targets (place_of_check rows.shape j) 0) ≡ s.target j

-- at the row and lane of each bit the word of its rest
pub record Shows (rows : Rows) (h : Held) (s : State) : Type 0 where
  pub long : AreLong rows h
  pub rests : (i : ℕ) → i < code_bits rows.shape → cell h.rests rows.shape.group (row_of_bit rows.shape i) (lane_of_bit rows.shape i) ≡ word (rest (code_of rows) s i)
  pub moves : ShowsMoves rows h.targets h.amounts s

-- no amount is above the most that a check moves
abbrev pub IsWithin : State → Type 0
IsWithin s = (j : ℕ) → s.amount j ≤ 49150

-- rows and lanes show a state within these limits
pub record IsShown (rows : Rows) (h : Held) (s : State) : Type 0 where
  pub within : IsWithin s
  pub shows : Shows rows h s

-- what passes find, and what rows and lanes then show
abbrev pub ShowsEnd : Rows → Option State → Bool → Held → Type 0
ShowsEnd rows None found h = found ≡ false
ShowsEnd rows (Some s) found h = (found ≡ true) × IsShown rows h s
