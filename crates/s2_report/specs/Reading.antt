-- How a report is read, line by line (own).
use Rattle.std.specs.Prelude.{◌≡◌, ◌⊎◌, ℕ, ◌<◌, Bool, true, false, List, [], ◌∷◌, ◌++◌, length, codes, decimal, Option, Some, None, Result, Ok, Err, ⊤}
use Rattle.std.specs.Io.KnownBytes.{Consumes, IsAtEnd}
use Rattle.s2_io.specs.declared.fault.Fault.{Fault}
use Rattle.s2_io.specs.declared.fault.Fault.TheVariants as faults
use Rattle.s2_report.specs.Entries.{IsLine}
use Rattle.s2_report.specs.Limits.{line_bytes}

-- a reader gave a byte, or it is at its end
abbrev pub GivesByte : Option (List ℕ) → Option (List ℕ) → Option ℕ → Type 0
GivesByte old new (Some b) = Consumes old new (b ∷ [])
GivesByte old new None = Consumes old new [] × IsAtEnd new

-- a line was read with its LF; or there was none before the end, or among the maximum length of a line in bytes
abbrev pub GivesLine : Option (List ℕ) → Option (List ℕ) → List ℕ → (ended : Bool) → Type 0
GivesLine old new line true = IsLine line × Consumes old new (line ++ 10 ∷ [])
GivesLine old new line false = IsLine line × Consumes old new line × (IsAtEnd new ⊎ (line_bytes < length line))

-- the fault of a line of a report
abbrev pub line_fault : ℕ → Fault
line_fault number = faults.Refused (codes "report: " ++ (codes "line " ++ decimal number))

-- the next line of a report, without its LF, or its end; the line of this number is refused if it has no LF, at the end or after 639
-- bytes
abbrev pub NextLine : (number : ℕ) → (old new : Option (List ℕ)) → (line : List ℕ) → Result Bool Fault → Type 0
NextLine number old new line (Ok true) = IsLine line × Consumes old new (line ++ 10 ∷ [])
NextLine number old new line (Ok false) = Consumes old new [] × IsAtEnd new
NextLine number old new line (Err faults.Read) = ⊤
NextLine number old new line (Err f) = (f ≡ line_fault number) × IsLine line × Consumes old new line × (IsAtEnd new ⊎ (line_bytes < length line))
