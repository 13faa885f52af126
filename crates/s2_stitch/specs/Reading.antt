-- The results of reading a record (own).
use Rattle.std.specs.Prelude.{◌≡◌, ℕ, ◌+◌, ◌≤◌, List, [], ◌∷◌, ◌++◌, length, Option, Some, None, IfSome, Result, Ok, Err, ⊤}
use Rattle.std.specs.Io.KnownBytes.{Consumes, IsAtEnd}
use Rattle.s2_stitch.specs.Records.{Record, front, max_certificate, record_at, verdict_of}
use Rattle.s2_stitch.specs.declared.read.Front.{Front}
use Rattle.s2_stitch.specs.declared.read.RecordFault.{RecordFault}
use Rattle.s2_stitch.specs.declared.read.RecordFault.TheVariants as faults

-- only a failed read is counted
abbrev pub CountsRead : {A : Type 0} → (old new : ℕ) → Result A RecordFault → Type 0
CountsRead old new (Err faults.Read) = new ≡ old + 1
CountsRead old new (Err faults.NotARecord) = new ≡ old
CountsRead old new (Err faults.NoMemory) = new ≡ old
CountsRead old new (Ok value) = new ≡ old

-- ---- in parts

-- twenty-four bytes and one more are a front: the numbers, and the verdict
pub record IsFront (head : List ℕ) (byte : ℕ) (f : Front) : Type 0 where
  pub long : length head ≡ front.size
  pub numbers : front.value head ≡ (f.at, (f.seal, (f.rounds, f.size)))
  pub verdict : verdict_of byte ≡ Some f.verdict
  pub few : f.size ≤ max_certificate

-- they are this front, or none, so that no record begins with them
abbrev pub SaysFront : (head : List ℕ) → (byte : ℕ) → Option Front → Type 0
SaysFront head byte (Some f) = IsFront head byte f
SaysFront head byte None = (n : ℕ) (rest : List ℕ) → record_at n (head ++ (byte ∷ rest)) ≡ None

-- the bytes of a front were read; or there are none; or they begin with no record
abbrev pub ReadsFront : (old new : Option (List ℕ)) → Result (Option Front) RecordFault → Type 0
ReadsFront old new (Ok (Some f)) = (head : List ℕ) × (byte : ℕ) × Consumes old new (head ++ (byte ∷ [])) × IsFront head byte f
ReadsFront old new (Ok None) = Consumes old new [] × IsAtEnd new
ReadsFront old new (Err faults.NotARecord) = IfSome old (λ xs. (n : ℕ) → record_at n xs ≡ None)
ReadsFront old new (Err fault) = ⊤

-- ---- the record

-- this is the record with which the bytes began, if they are known, and what follows it is left
abbrev pub ReadsAs : (n : ℕ) → (old new : Option (List ℕ)) → Record → Type 0
ReadsAs n None new r = ⊤
ReadsAs n (Some bytes) None r = ⊥
ReadsAs n (Some bytes) (Some left) r = record_at n bytes ≡ Some (r, left)

-- a record was read, or nothing is left
abbrev pub ReadsRecord : (n : ℕ) → (old new : Option (List ℕ)) → Result (Option Record) RecordFault → Type 0
ReadsRecord n old new (Ok (Some r)) = ReadsAs n old new r × (length r.bits ≡ n)
ReadsRecord n old new (Ok None) = Consumes old new [] × IsAtEnd new
ReadsRecord n old new (Err fault) = ⊤
