-- What shows the decision on a frame: a certificate, and a record of its codeword (own).
use Rattle.std.specs.Prelude.{◌≡◌, ℕ, ◌*◌, ◌<◌, Bool, true, false, List, [], ◌++◌, codes, length, Option, Some, None, IfSome, Result, Ok, Err, option_map, is_some, ⊤}
use Rattle.std.specs.Io.KnownBytes.{Consumes, IsAtEnd}
use Rattle.s2_bits.specs.Bits.{bits_of_bytes}
use Rattle.s2_mode.specs.Mode.{Mode, n_of}
use Rattle.s2_io.specs.declared.fault.Fault.{Fault}
use Rattle.s2_io.specs.declared.fault.Fault.TheVariants as faults
use Rattle.s2_replay.specs.declared.certificates.Refusal.{Refusal}
use Rattle.s2_replay.specs.declared.certificates.Refusal.TheVariants as refusals
use Rattle.s2_audit.specs.Limits.{certificate_bytes}
use Rattle.s2_audit.specs.declared.difference.Reason.{Reason}
use Rattle.s2_audit.specs.declared.difference.Reason.TheVariants as reasons
use Rattle.s2_audit.specs.declared.frame.Recorded.{Recorded}
use Rattle.s2_audit.specs.declared.frame.Recorded.TheVariants as records

-- ---- a file that may not be given

-- it gave these bytes next, if it is given
abbrev pub ReadsIf : (old new : Option (Option (List ℕ))) → (bytes : List ℕ) → Type 0
ReadsIf None new bytes = new ≡ None
ReadsIf (Some old) None bytes = ⊥
ReadsIf (Some old) (Some new) bytes = Consumes old new bytes

-- it is not given, or at its end
abbrev pub IsOverIf : Option (Option (List ℕ)) → Type 0
IsOverIf None = ⊤
IsOverIf (Some left) = IsAtEnd left

-- it is given, and no byte is left
abbrev pub IsMissing : (old new : Option (Option (List ℕ))) → Type 0
IsMissing (Some old) (Some new) = Consumes old new [] × IsAtEnd new
IsMissing old new = ⊥

-- ---- the records of a file

-- the file ends within a record of this size
pub record EndsWithin (size : ℕ) (old new : Option (List ℕ)) : Type 0 where
  pub bytes : List ℕ
  pub some : 0 < length bytes
  pub few : length bytes < size
  pub read : Consumes old new bytes
  pub ended : IsAtEnd new

-- the same of a file that may not be given
abbrev pub EndsWithinIf : (size : ℕ) → (old new : Option (Option (List ℕ))) → Type 0
EndsWithinIf size (Some old) (Some new) = EndsWithin size old new
EndsWithinIf size old new = ⊥

-- the fault of a record that is cut, in a file of this name
abbrev pub cut_fault : (name : List ℕ) → Fault
cut_fault name = faults.Refused (name ++ codes "cut")

-- These bytes are the next record; or no record is left. Or the file ends within one
abbrev pub ReadsRecord : (name : List ℕ) → (old new : Option (List ℕ)) → (bytes : List ℕ) → Result Bool Fault → Type 0
ReadsRecord name old new bytes (Ok true) = Consumes old new bytes
ReadsRecord name old new bytes (Ok false) = Consumes old new [] × IsAtEnd new
ReadsRecord name old new bytes (Err faults.Read) = ⊤
ReadsRecord name old new bytes (Err f) = (f ≡ cut_fault name) × EndsWithin (length bytes) old new

-- ---- the evidence of a frame

-- the bytes of a record, if there is one
abbrev pub bytes_of : Option (List ℕ) → List ℕ
bytes_of None = []
bytes_of (Some bytes) = bytes

-- if codewords are given, a frame has a record of one: n bits, eight to a byte
abbrev pub IsGiven : (n : ℕ) → (given : Bool) → (packed : Option (List ℕ)) → Type 0
IsGiven n false packed = packed ≡ None
IsGiven n true None = ⊥
IsGiven n true (Some bytes) = n ≡ 8 * length bytes

-- if a frame has a record, these are its bits
abbrev pub IsWordOf : (packed : Option (List ℕ)) → (word : List Bool) → Type 0
IsWordOf None word = ⊤
IsWordOf (Some bytes) word = word ≡ bits_of_bytes bytes

-- without a certificate and without a record no bit is known
abbrev pub IsUnknownIf : (block packed : Option (List ℕ)) → (word : List Bool) → Type 0
IsUnknownIf None None word = word ≡ []
IsUnknownIf None (Some bytes) word = ⊤
IsUnknownIf (Some bytes) packed word = ⊤

-- a certificate has the bytes of version 2 for its mode
abbrev pub IsSized : Mode → (block : Option (List ℕ)) → Type 0
IsSized m block = IfSome block (λ bytes. length bytes ≡ certificate_bytes m)

-- the unread bytes of the certificates, and of the codewords if these are given
pub record Evidence : Type 0 where
  pub certificates : Option (List ℕ)
  pub codewords : Option (Option (List ℕ))

-- those of two readers
abbrev pub evidence_by : {R : Type 0} → (R → Option (List ℕ)) → R → Option R → Evidence
evidence_by remaining certificates codewords = record { certificates = remaining certificates; codewords = option_map remaining codewords }

-- the record of a codeword was taken, if codewords are given
abbrev pub TakesCodeword : (n : ℕ) → (old new : Option (Option (List ℕ))) → (packed : Option (List ℕ)) → Type 0
TakesCodeword n old new packed = ReadsIf old new (bytes_of packed) × IsGiven n (is_some old) packed

-- this certificate was taken, or none, and this record of a codeword, or none
pub record Takes (m : Mode) (old new : Evidence) (block packed : Option (List ℕ)) : Type 0 where
  pub certificate : Consumes old.certificates new.certificates (bytes_of block)
  pub sized : IsSized m block
  pub codeword : TakesCodeword (n_of m) old.codewords new.codewords packed

-- the next record of a codeword: the file is not given, no record is left, or the record has these bits. Or the file ends within one
abbrev pub TakesRecord : (n size : ℕ) → (old new : Option (Option (List ℕ))) → (bits : List Bool) → Result Recorded Fault → Type 0
TakesRecord n size old new bits (Ok records.NotGiven) = (old ≡ None) × TakesCodeword n old new None
TakesRecord n size old new bits (Ok records.Missing) = IsMissing old new
TakesRecord n size old new bits (Ok records.Taken) = (bytes : List ℕ) × TakesCodeword n old new (Some bytes) × (bits ≡ bits_of_bytes bytes)
TakesRecord n size old new bits (Err faults.Read) = ⊤
TakesRecord n size old new bits (Err f) = (f ≡ cut_fault (codes "codewords: ")) × EndsWithinIf size old new

-- a certificate that shows nothing is refused for this reason
abbrev pub reason_for : Refusal → Reason
reason_for refusals.OtherValues = reasons.OtherValues
reason_for refusals.NotAccepted = reasons.NotAccepted
