-- The next record whose frame may come (own).
use Rattle.std.specs.Prelude.{◌≡◌, ◌⊎◌, ℕ, ◌+◌, List, [], ◌∷◌, ◌++◌, length, Option, Some, None}
use Rattle.std.specs.Io.KnownBytes.{IsAtEnd}
use Rattle.s2_rows.specs.Rows.{Rows}
use Rattle.s2_certfile.specs.Format.{file_of_bytes}
use Rattle.s2_stitch.specs.Frames.{IsFrameOf, RecordedFrame, Terms, file_in}
use Rattle.s2_stitch.specs.Records.{Record}
use Rattle.s2_stitch.specs.Sources.{ArePassed, AreRead, IsOfUse, ReadsCopy}
use Rattle.s2_stitch.specs.declared.next.Usable.{Usable}

-- a record of a word of n bits, with its certificate, whose frame may come from this position on
pub record IsUsable (rows : Rows) (n from : ℕ) (u : Usable) : Type 0 where
  pub bits : length u.record.bits ≡ n
  pub certificate : u.certificate ≡ file_in (file_of_bytes u.record.certificate)
  pub of_use : IsOfUse rows from u.record

-- records were read up to this one, or to their end, and the others were passed
abbrev pub ReadsUsable : Rows → (n from : ℕ) → (old new : Option (List ℕ)) → Option Usable → Type 0
ReadsUsable rows n from old new None = (passed : List Record) × AreRead n passed old new × IsAtEnd new
ReadsUsable rows n from old new (Some u) = (passed : List Record) × AreRead n (passed ++ u.record ∷ []) old new × ArePassed rows from passed

-- the frame of this record was read from a copy of the recording, and decided by it. Or the copy is at its end, or it was read up to an
-- end record
abbrev pub CopiesUsable : Terms → Record → (place place_new : ℕ) → (old new : Option (List ℕ)) → Option RecordedFrame → Type 0
CopiesUsable t r place place_new old new None = ReadsCopy t place place_new old new None × (IsAtEnd new ⊎ ((r.verdict ≡ None) × (place_new ≡ r.at + 1)))
CopiesUsable t r place place_new old new (Some f) = ReadsCopy t place place_new old new (Some f) × IsFrameOf t r f
