-- The line of a frame's soft values, as a value file has them (own).
use Rattle.std.specs.Prelude.{ℕ, ℤ, List, [], ◌∷◌, ◌++◌, codes}
use Rattle.std.specs.Fmt.{signed_decimal}

-- after a value: a space if another follows, else LF
abbrev pub after_value : List ℤ → List ℕ
after_value [] = codes "\n"
after_value (v ∷ soft) = codes " "

-- the values of a frame on one line: decimal digits, a minus before those of a negative one, one space between two
-- values, LF at the end
unfoldable pub values_line : List ℤ → List ℕ
values_line [] = []
values_line (v ∷ soft) = (signed_decimal v ++ after_value soft) ++ values_line soft
