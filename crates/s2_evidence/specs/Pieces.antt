-- Certificates one after another; the header of each determines its length (own).
use Rattle.std.specs.Prelude.{◌≡◌, ◌≢◌, ℕ, List, [], Option, Some, None, Result, Ok, Err}
use Rattle.std.specs.Io.KnownBytes.{Consumes, IsAtEnd}
use Rattle.s2_certfile.specs.File.{File}
use Rattle.s2_certfile.specs.Format.{file_of_bytes}
use Rattle.s2_certfile.specs.declared.fault.CertFault.{CertFault}
use Rattle.s2_certfile.specs.declared.fault.CertFault.TheVariants as cert_faults
use Rattle.s2_io.specs.declared.fault.Fault.{Fault}
use Rattle.s2_io.specs.declared.fault.Fault.TheVariants as faults
use Rattle.s2_evidence.specs.Checking.{certificate_said}

-- the bytes of the header of version 1
abbrev pub head_bytes : ℕ
head_bytes = 17

-- the maximum length of a certificate in bytes: version 1, 64800 bits, 1,555,200 shares
abbrev pub max_piece : ℕ
max_piece = 6358517

-- bytes that are not more than their header says, or whose header is refused; if none is missing they are not cut
pub record IsPiece (bytes : List ℕ) (missing : ℕ) : Type 0 where
  pub no_more : file_of_bytes bytes ≢ Err cert_faults.Extra
  pub enough : missing ≡ 0 → file_of_bytes bytes ≢ Err cert_faults.Cut

-- These bytes are refused as a certificate, for this fault. They are cut only if they are the last ones, and they are
-- never more than their header says
pub record IsRefusedPiece (bytes : List ℕ) (after : Option (List ℕ)) (fault : Fault) : Type 0 where
  pub said : certificate_said (file_of_bytes bytes) ≡ Err fault
  pub no_more : file_of_bytes bytes ≢ Err cert_faults.Extra
  pub last : file_of_bytes bytes ≡ Err cert_faults.Cut → IsAtEnd after

-- some bytes were read
abbrev pub Takes : Option (List ℕ) → Option (List ℕ) → Type 0
Takes before after = (bytes : List ℕ) × Consumes before after bytes

-- bytes of this kind were read
abbrev pub Took : Option (List ℕ) → Option (List ℕ) → (List ℕ → Type 0) → Type 0
Took before after Are = (bytes : List ℕ) × Consumes before after bytes × Are bytes

-- The next certificate of a reader was read. There is none only at the end. Or the next bytes are refused, memory ran
-- out, or a read failed
abbrev pub TakesPiece : Option (List ℕ) → Option (List ℕ) → Result (Option File) Fault → Type 0
TakesPiece before after (Ok None) = IsAtEnd after × Consumes before after []
TakesPiece before after (Ok (Some file)) = Took before after (λ bytes. file_of_bytes bytes ≡ Ok file)
TakesPiece before after (Err faults.Read) = Took before after (λ bytes. Unit {0})
TakesPiece before after (Err faults.NoMemory) = Took before after (λ bytes. Unit {0})
TakesPiece before after (Err faults.Write) = ⊥
TakesPiece before after (Err fault) = Took before after (λ bytes. IsRefusedPiece bytes after fault)
