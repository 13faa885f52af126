-- The text of rows, as it is written and as it may be laid out (own).
use Rattle.std.specs.Prelude.{◌≡◌, ℕ, ◌⊎◌, List, [], ◌∷◌, ◌++◌, Ok, codes, decimal, ⊤}
use Rattle.std.specs.List.{flat_map}
use Rattle.s2_rows.specs.Rows.{Rows, IsRows}
use Rattle.s2_rows.specs.RowFiles.{rows_of_text}
use Rattle.s2_rows.specs.Layouts.{AreSpaces, EndsToken, IsIgnored, digits_of}
use Rattle.s2_rows.specs.Text.{lines_of}

-- after an address: a space if another follows, else LF
abbrev pub after_address : List ℕ → List ℕ
after_address [] = codes "\n"
after_address (x ∷ row) = codes " "

-- the addresses of a row in their order
unfoldable pub row_text : List ℕ → List ℕ
row_text [] = []
row_text (x ∷ row) = decimal x ++ (after_address row ++ row_text row)

-- the rows, each on its line: decimal digits, one space between addresses, LF
abbrev pub rows_text : List (List ℕ) → List ℕ
rows_text rows = flat_map row_text rows

-- written rows are accepted, as the same rows
abbrev pub ReadBackLaw : Type 0
ReadBackLaw = (r : Rows) → IsRows r → rows_of_text (rows_text r.rows) r.shape ≡ Ok r.rows

-- ---- row files with any layout

-- the addresses of a row in their order, in decimal, some zeros before them and some separators between them
abbrev pub IsLineOf : List ℕ → List ℕ → Type 0
IsLineOf line [] = AreSpaces line
IsLineOf line (x ∷ row) =
    (gap : List ℕ) × (zeros : ℕ) × (rest : List ℕ) × (line ≡ gap ++ (digits_of zeros x ++ rest)) × AreSpaces gap × EndsToken rest × IsLineOf rest row

-- the rows in their order, each on its line, and between them ignored lines
abbrev pub AreLinesOf : List (List ℕ) → List (List ℕ) → Type 0
AreLinesOf [] [] = ⊤
AreLinesOf [] (row ∷ rows) = ⊥
AreLinesOf (line ∷ lines) [] = IsIgnored line × AreLinesOf lines []
AreLinesOf (line ∷ lines) (row ∷ rows) = (IsIgnored line × AreLinesOf lines (row ∷ rows)) ⊎ (IsLineOf line row × AreLinesOf lines rows)

-- a file of such lines is accepted, as these rows
abbrev pub RowFileLaw : Type 0
RowFileLaw = (r : Rows) (text : List ℕ) → IsRows r → AreLinesOf (lines_of text) r.rows → rows_of_text text r.shape ≡ Ok r.rows
