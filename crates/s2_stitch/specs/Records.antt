-- The record of a frame's decision, its seal, and its bytes (own). Read from top to bottom; numbers are big endian.
use Rattle.std.specs.Prelude.{◌≡◌, ℕ, ℤ, ◌+◌, ◌*◌, ◌/◌, ◌%◌, ◌^◌, ◌<◌, ◌≤◌, ◌==◌, ◌||◌, nat_lt, Bool, if◌then◌else◌, List, [], ◌∷◌, ◌++◌, length, take, drop, map, pos, slice_index_or, fold, All, Option, Some, None}
use Rattle.std.specs.List.{flat_map}
use Rattle.std.specs.Int.{cast_unsigned, from_le_bytes, w16, w32, w64}
use Rattle.s2_certfile.specs.Field.{Field, both, bit_list, bytes_of_bits, number, places}
use Rattle.s2_check.specs.declared.verdict.Verdict.{Verdict}
use Rattle.s2_check.specs.declared.verdict.Verdict.TheVariants.{Sole, MostLikely, Parity, Broken}

-- The decision on the frame that begins at a position of a recording: the rounds of min-sum, the verdict, the decided bits, and
-- the file of their certificate, which is empty if there is none. Without a verdict it is an end record: it says that a piece has
-- no other frame that begins at this position or before it. The seal binds a record to its frame
pub record Record : Type 0 where
  pub at : ℕ
  pub seal : ℕ
  pub rounds : ℕ
  pub verdict : Option Verdict
  pub bits : List Bool
  pub certificate : List ℕ

-- the most bytes of a certificate
abbrev pub max_certificate : ℕ
max_certificate = 16777216

-- a record of a word of n bits, whose numbers fit
pub record IsRecord (n : ℕ) (r : Record) : Type 0 where
  pub at : r.at < 2 ^ 64
  pub seal : r.seal < 2 ^ 64
  pub rounds : r.rounds < 2 ^ 32
  pub bits : length r.bits ≡ n
  pub certificate : length r.certificate ≤ max_certificate

-- ---- the bytes

-- the four numbers in front: the position and the seal in eight bytes each, the rounds in four, and the number of bytes of the
-- certificate in four
abbrev pub front : Field (ℕ × (ℕ × (ℕ × ℕ)))
front = both (number w64) (both (number w64) (both (number w32) (number w32)))

-- the byte of a verdict
abbrev pub verdict_byte : Option Verdict → ℕ
verdict_byte (Some Sole) = 0
verdict_byte (Some MostLikely) = 1
verdict_byte (Some Parity) = 2
verdict_byte (Some Broken) = 3
verdict_byte None = 4

-- front, verdict, bits and certificate, one after another
abbrev pub record_bytes : Record → List ℕ
record_bytes r = front.bytes (r.at, (r.seal, (r.rounds, length r.certificate))) ++ (verdict_byte r.verdict ∷ (bytes_of_bits r.bits ++ r.certificate))

-- ---- the seal

-- one step of a sum modulo 2^64. The factor is odd, so another number, or another sum before, gives another sum
abbrev pub sum_step : ℕ → ℕ → ℕ
sum_step sum x = (sum * 6364136223846793005 + x) % 2 ^ 64

-- four soft values from a place on, in sixteen bits each, as one number; zero past the end
abbrev pub four_at : List ℤ → ℕ → ℕ
four_at soft at =
    let value = λ (k : ℕ). cast_unsigned w16 (slice_index_or soft (at + k) (pos 0)) in
    value 0 + 65536 * value 1 + 4294967296 * value 2 + 281474976710656 * value 3

-- the sum of soft values, four to a number: of every second number, from the first or from the second on
abbrev pub soft_sum : List ℤ → (first : ℕ) → ℕ
soft_sum soft first = fold sum_step 0 (map (λ i. four_at soft (8 * i + 4 * first)) (places ((length soft + 7) / 8)))

-- eight bytes from a place on as one number, the first one lowest; zero past the end
abbrev pub eight_at : List ℕ → ℕ → ℕ
eight_at bytes at =
    let byte = λ (k : ℕ). slice_index_or bytes (at + k) 0 in
    from_le_bytes w64 (byte 0 ∷ byte 1 ∷ byte 2 ∷ byte 3 ∷ byte 4 ∷ byte 5 ∷ byte 6 ∷ byte 7 ∷ [])

-- bytes, eight to a number
abbrev pub eights_of : List ℕ → List ℕ
eights_of bytes = map (λ i. eight_at bytes (8 * i)) (places ((length bytes + 7) / 8))

-- the sum of the soft values of a frame and of all that its record says, which begins at this number
unfoldable pub sum_of : (seed : ℕ) → (soft : List ℤ) → (at rounds verdict : ℕ) → (bits : List Bool) → (certificate : List ℕ) → ℕ
sum_of seed soft at rounds verdict bits certificate =
    let front = soft_sum soft 0 ∷ soft_sum soft 1 ∷ at ∷ rounds ∷ verdict ∷ [] in
    fold sum_step (fold sum_step (fold sum_step seed front) (eights_of (bytes_of_bits bits))) (eights_of certificate)

-- The seal of a record: the sum of the frame's soft values and of all that the record says, from a number that identifies the rows and the options
abbrev pub seal_of : (seed : ℕ) → (soft : List ℤ) → Record → ℕ
seal_of seed soft r = sum_of seed soft r.at r.rounds (verdict_byte r.verdict) r.bits r.certificate

-- ---- and back

abbrev pub verdict_of : ℕ → Option (Option Verdict)
verdict_of byte =
    if byte == 0 then Some (Some Sole) else if byte == 1 then Some (Some MostLikely) else if byte == 2 then Some (Some Parity) else if byte == 3 then Some (Some Broken)
    else if byte == 4 then Some None else None

-- bits and certificate, if they are there, and what follows them
abbrev pub body_at : (n : ℕ) → (at seal rounds size : ℕ) → Option (Option Verdict) → List ℕ → Option (Record × List ℕ)
body_at n at seal rounds size None bytes = None
body_at n at seal rounds size (Some verdict) bytes =
    if nat_lt max_certificate size || nat_lt (length bytes) ((bit_list n).size + size) then None
    else Some (
      record {
        at = at;
        seal = seal;
        rounds = rounds;
        verdict = verdict;
        bits = (bit_list n).value (take (bit_list n).size bytes);
        certificate = take size (drop (bit_list n).size bytes);
      },
      drop ((bit_list n).size + size) bytes,
    )

-- the byte of the verdict, and the body
abbrev pub verdict_at : (n : ℕ) → ℕ × (ℕ × (ℕ × ℕ)) → List ℕ → Option (Record × List ℕ)
verdict_at n numbers [] = None
verdict_at n numbers (byte ∷ rest) = body_at n numbers.0 numbers.1.0 numbers.1.1.0 numbers.1.1.1 (verdict_of byte) rest

-- The record of a word of n bits with which bytes begin, and what follows it. None if they begin with no record
unfoldable pub record_at : (n : ℕ) → List ℕ → Option (Record × List ℕ)
record_at n bytes = if nat_lt (length bytes) front.size then None else verdict_at n (front.value (take front.size bytes)) (drop front.size bytes)

-- a record that is written is read again, whatever follows it
abbrev pub ReadAgainLaw : Type 0
ReadAgainLaw = (n : ℕ) (r : Record) (rest : List ℕ) → IsRecord n r → record_at n (record_bytes r ++ rest) ≡ Some (r, rest)

-- ---- many of them

-- these are the records that are read one after another, and what follows them
abbrev pub AreRecords : (n : ℕ) → List Record → (bytes rest : List ℕ) → Type 0
AreRecords n [] bytes rest = bytes ≡ rest
AreRecords n (r ∷ later) bytes rest = (left : List ℕ) × (record_at n bytes ≡ Some (r, left)) × AreRecords n later left rest

-- all records of some bytes, which are nothing else
abbrev pub AreAllRecords : (n : ℕ) → List Record → (bytes : List ℕ) → Type 0
AreAllRecords n records bytes = AreRecords n records bytes []

-- records that were written one after another are read again
abbrev pub WrittenLaw : Type 0
WrittenLaw = (n : ℕ) (records : List Record) → All (IsRecord n) records → AreAllRecords n records (flat_map record_bytes records)

-- bytes have no other records
abbrev pub SameRecordsLaw : Type 0
SameRecordsLaw = (n : ℕ) (records others : List Record) (bytes : List ℕ) → AreAllRecords n records bytes → AreAllRecords n others bytes → records ≡ others
