-- The lines of notes on the errors (own).
use Rattle.std.specs.Prelude.{◌≡◌, ◌≢◌, ◌<◌, ℕ, List, [], ◌∷◌, ◌++◌, codes, Result, Ok, Err}
use Rattle.std.specs.Io.KnownBytes.{Appends}
use Rattle.s2_io.specs.declared.exit.Exit.{Exit}
use Rattle.s2_io.specs.declared.fault.Fault.{Fault}
use Rattle.s2_io.specs.declared.fault.Fault.TheVariants as faults
use Rattle.s2_io.specs.Exits.{Complains}
use Rattle.s2_io.specs.Faults.{fault_line}
use Rattle.s2_io.specs.Screens.{Screen}

-- a note that says this
abbrev pub note_line : List ℕ → List ℕ
note_line text = codes "s2: note: " ++ text ++ codes "\n"

-- What a command with these notes wrote to its errors: its notes, then the line of a fault, if there is one. They may
-- be lost only if their writer failed, which is a fault
abbrev pub Remarks : List ℕ → Result Exit Fault → Screen → Screen → Type 0
Remarks [] ended old new = Complains ended old new
Remarks (byte ∷ notes) (Ok exit) old new = (new.errors_failed ≡ old.errors_failed) × Appends old.errors new.errors (byte ∷ notes)
Remarks (byte ∷ notes) (Err f) old new = new.errors_failed ≡ old.errors_failed → Appends old.errors new.errors ((byte ∷ notes) ++ fault_line f)

-- there were notes, and their writer failed: that is the fault of the command
abbrev pub NotesLost : List ℕ → Result Exit Fault → Screen → Screen → Type 0
NotesLost notes ended old new = (notes ≢ []) × (ended ≡ Err faults.Write) × (old.errors_failed < new.errors_failed)
