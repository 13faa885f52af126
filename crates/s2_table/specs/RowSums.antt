-- The digests of single rows (own).
use Rattle.std.specs.Prelude.{◌≡◌, ◌≢◌, ℕ, ◌+◌, ◌<◌, List, [], ◌∷◌, map, get_or, if◌then◌else◌, Option, Some, None, slice_index}
use Rattle.std.specs.Int.{w32, from_be_bytes}
use Rattle.sha2.specs.Sha256.{sha256}
use Rattle.s2_mode.specs.Mode.{Mode, rate_index}
use Rattle.s2_rows.specs.Rows.{Rows, row_of}
use Rattle.s2_rows.specs.RowTexts.{row_text}
use Rattle.s2_table.specs.Rising.{IsRisen}
use Rattle.s2_table.specs.declared.row_sums.TheConstants.{NORMAL_ROWS, SHORT_ROWS}

-- the first four bytes of a digest as a number, highest byte first
abbrev pub front_of : List ℕ → ℕ
front_of digest = from_be_bytes w32 (slice_index digest 0 ∷ slice_index digest 1 ∷ slice_index digest 2 ∷ slice_index digest 3 ∷ [])

-- the digest of a row: that of its line, with rising addresses
abbrev pub IsRowSum : List ℕ → ℕ → Type 0
IsRowSum row sum = (risen : List ℕ) × IsRisen row risen × (sum ≡ front_of (sha256 (row_text risen)))

-- the digests of the standard's rows for the code of a mode, by the place of its code rate; `bench/rows_sums` makes them
unfoldable pub standard_row_sums : Mode → List ℕ
standard_row_sums m = get_or (map (λ sums. sums.now) (if m.short then SHORT_ROWS else NORMAL_ROWS)) (rate_index m) []

-- the row in this line, counted from 1, has another digest, and each row before has the one at its place
pub record IsFirstOther (r : Rows) (sums : List ℕ) (line : ℕ) : Type 0 where
  pub group : ℕ
  pub within : group < r.shape.groups
  pub here : line ≡ group + 1
  pub sum : ℕ
  pub is_sum : IsRowSum (row_of r group) sum
  pub differs : sum ≢ get_or sums group 0
  pub before : (g : ℕ) → g < group → IsRowSum (row_of r g) (get_or sums g 0)

-- the first row with another digest than the one at its place, by its line; none if each row has the one at its place
abbrev pub FirstOther : Rows → List ℕ → Option ℕ → Type 0
FirstOther r sums None = (g : ℕ) → g < r.shape.groups → IsRowSum (row_of r g) (get_or sums g 0)
FirstOther r sums (Some line) = IsFirstOther r sums line

-- so there is one first row
abbrev pub OneOtherLaw : Type 0
OneOtherLaw = (r : Rows) (sums : List ℕ) (a b : Option ℕ) → FirstOther r sums a → FirstOther r sums b → a ≡ b
