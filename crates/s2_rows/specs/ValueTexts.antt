-- The text of values, as it may be laid out (own).
use Rattle.std.specs.Prelude.{◌≡◌, ℕ, ◌≤◌, ◌⊎◌, List, [], ◌∷◌, ◌++◌, length, ℤ, pos, neg_ℤ, Ok}
use Rattle.s2_mode.specs.Limits.{max_soft}
use Rattle.s2_rows.specs.Layouts.{AreSpaces, EndsToken, IsIgnored, digits_of}
use Rattle.s2_rows.specs.Text.{lines_of}
use Rattle.s2_rows.specs.Values.{values_of_text}

-- the digits of a number of at most 511, leading zeros allowed, and a minus before them allowed
pub data IsWritten (token : List ℕ) (v : ℤ) : Type 0 where
  plain : (zeros n : ℕ) → n ≤ max_soft → token ≡ digits_of zeros n → v ≡ pos n → IsWritten token v
  minus : (zeros n : ℕ) → n ≤ max_soft → token ≡ 45 ∷ digits_of zeros n → v ≡ neg_ℤ (pos n) → IsWritten token v

-- a line with these values in their order, with separators before, between and after them
abbrev pub IsLineWith : List ℕ → List ℤ → Type 0
IsLineWith line [] = AreSpaces line
IsLineWith line (v ∷ values) =
    (gap : List ℕ) × (token : List ℕ) × (rest : List ℕ) × (line ≡ gap ++ (token ++ rest)) × AreSpaces gap × IsWritten token v × EndsToken rest × IsLineWith rest values

-- the values in their order, on each line any number of the next ones, and between these lines ignored ones
abbrev pub AreLinesWith : List (List ℕ) → List ℤ → Type 0
AreLinesWith [] values = values ≡ []
AreLinesWith (line ∷ lines) values =
    (IsIgnored line × AreLinesWith lines values) ⊎ ((here : List ℤ) × (later : List ℤ) × (values ≡ here ++ later) × IsLineWith line here × AreLinesWith lines later)

-- a text of such lines is read as these values
abbrev pub ValueTextLaw : Type 0
ValueTextLaw = (values : List ℤ) (text : List ℕ) → AreLinesWith (lines_of text) values → values_of_text text (length values) ≡ Ok values
