-- Bytes on their way through a page to a writer (own).
use Rattle.std.specs.Prelude.{◌≡◌, ℕ, List, ◌++◌, Option, Result, Ok, Err}
use Rattle.std.specs.Io.KnownBytes.{Appends}
use Rattle.s2_mode.specs.Pieces.{AppendsPart}

-- of the bytes in the page and those after them a first part is written, and the page holds the others
abbrev pub GoesThrough : List ℕ → Option (List ℕ) → Option (List ℕ) → List ℕ → List ℕ → Type 0
GoesThrough bytes old new page page' = (written : List ℕ) × (page ++ bytes ≡ written ++ page') × Appends old new written

-- the bytes went through the page; or a write failed, and of the bytes in the page and those after them a first part is
-- written, but not all
abbrev pub PutsThrough : {T E : Type 0} → List ℕ → Option (List ℕ) → Option (List ℕ) → List ℕ → List ℕ → Result T E → Type 0
PutsThrough bytes old new page page' (Ok x) = GoesThrough bytes old new page page'
PutsThrough bytes old new page page' (Err e) = AppendsPart (page ++ bytes) old new
