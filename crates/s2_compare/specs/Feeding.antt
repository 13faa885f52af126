-- One step of a comparison: the next certificate, the device's word for it, and the line (own).
use Rattle.std.specs.Prelude.{◌≡◌, ◌⊎◌, ℕ, List, [], Bool, Option, Some, None, Result, Ok, Err}
use Rattle.std.specs.Io.KnownBytes.{Consumes, Appends, IsAtEnd}
use Rattle.s2_mode.specs.Pieces.{AppendsPart}
use Rattle.s2_rows.specs.Rows.{Rows}
use Rattle.s2_certfile.specs.File.{File}
use Rattle.s2_io.specs.declared.fault.Fault.{Fault}
use Rattle.s2_io.specs.declared.fault.Fault.TheVariants as faults
use Rattle.s2_evidence.specs.Pieces.{TakesPiece}
use Rattle.s2_compare.specs.declared.compared.Compared.{Compared}
use Rattle.s2_compare.specs.declared.form.Form.{Form}
use Rattle.s2_compare.specs.Comparing.{Compares}
use Rattle.s2_compare.specs.Devices.{TakesWord, HasMoreWords}
use Rattle.s2_compare.specs.Lines.{frame_line}

-- the unread bytes of the certificates' file and of the device's
pub record Feeds : Type 0 where
  pub certificates : Option (List ℕ)
  pub words : Option (List ℕ)

-- both of them
abbrev pub feeds : Option (List ℕ) → Option (List ℕ) → Feeds
feeds certificates words = record { certificates = certificates; words = words }

-- the next certificate and the word for it were read, this is the answer, and this was done with it
pub record NextFrame (form : Form) (rows : Rows) (before after : Feeds) (Done : Compared → Type 0) : Type 0 where
  pub file : File
  pub device : Option (List Bool)
  pub answer : Compared
  pub certificate : TakesPiece before.certificates after.certificates (Ok (Some file))
  pub word : TakesWord form rows before.words after.words (Ok device)
  pub compared : Compares rows file device answer
  pub done : Done answer

-- the next certificate was read, and the word for it is refused, or a read failed
pub record RefusesWord (form : Form) (rows : Rows) (before after : Feeds) (fault : Fault) : Type 0 where
  pub file : File
  pub certificate : TakesPiece before.certificates after.certificates (Ok (Some file))
  pub word : TakesWord form rows before.words after.words (Err fault)

-- Why the next line is not printed if no writer failed. The next certificate is refused, a read of it failed, or memory
-- ran out. Or its word is refused, or there are more words than certificates
abbrev pub StopsReading : Form → Rows → Feeds → Feeds → Fault → Type 0
StopsReading form rows before after fault =
    (TakesPiece before.certificates after.certificates (Err fault) × (after.words ≡ before.words))
    ⊎ (RefusesWord form rows before after fault
    ⊎ (TakesPiece before.certificates after.certificates (Ok None) × HasMoreWords before.words after.words fault))

-- the next line is not printed, or only a part of it
abbrev pub StopsNext : Form → Rows → ℕ → Feeds → Feeds → Fault → Option (List ℕ) → Option (List ℕ) → Type 0
StopsNext form rows number before after fault old new =
    (StopsReading form rows before after fault × (new ≡ old))
    ⊎ ((fault ≡ faults.Write) × NextFrame form rows before after (λ answer. AppendsPart (frame_line number answer) old new))

-- both files are at their end
pub record BothEnd (before after : Feeds) : Type 0 where
  pub certificates : TakesPiece before.certificates after.certificates (Ok None)
  pub words : IsAtEnd after.words
  pub no_word : Consumes before.words after.words []

-- the next frame's line was printed, or both files are at their end, or the comparison stops
abbrev pub ComparesNext : Form → Rows → ℕ → Feeds → Feeds → Option (List ℕ) → Option (List ℕ) → Result (Option Compared) Fault → Type 0
ComparesNext form rows number before after old new (Ok None) = BothEnd before after × (new ≡ old)
ComparesNext form rows number before after old new (Ok (Some answer)) =
    NextFrame form rows before after (λ found. (found ≡ answer) × Appends old new (frame_line number answer))
ComparesNext form rows number before after old new (Err fault) = StopsNext form rows number before after fault old new
