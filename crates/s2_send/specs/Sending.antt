-- What a run of the transmitter reads and writes (EN 302 307-1, 5.1): the frames of the data fields of the packets' stream,
-- and dummy frames among them.
use Rattle.std.specs.Prelude.{◌≡◌, ◌≢◌, ℕ, ◌+◌, ◌<◌, ◌≤◌, ◌⊎◌, ◌%◌, ◌==◌, Bool, false, if◌then◌else◌, List, [], ◌∷◌, ◌++◌, length, take, All, slice_index, Option, Result, Ok, Err, ⊤}
use Rattle.std.specs.List.{flat_map}
use Rattle.std.specs.Io.KnownBytes.{Consumes, Appends, IsAtEnd}
use Rattle.s2_bbframe.specs.Limits.{packet_bytes, sync}
use Rattle.s2_bbframe.specs.DataStream.{IsPacket, stream_of, full_fields, fields_of, header_at, field_bytes}
use Rattle.s2_link.specs.Link.{Link}
use Rattle.s2_send.specs.Frames.{IsCodewordFor, IsUnitOf}
use Rattle.s2_send.specs.Hints.{size_told}
use Rattle.s2_send.specs.Sinks.{Taking, TakesCodewords}
use Rattle.s2_send.specs.Transmitter.{Transmitter}
use Rattle.s2_send.specs.declared.outcome.Counts.{Counts}
use Rattle.s2_send.specs.declared.outcome.SendFault.{SendFault}
use Rattle.s2_send.specs.declared.outcome.SendFault.TheVariants.{NotWholePacket, NoSync, Read, Write}

-- lists, one after another
abbrev pub joined : List (List ℕ) → List ℕ
joined lists = flat_map (λ list. list) lists

-- whether a dummy frame is due after the run's frame of this number, counted from 1: if the transmitter's number
-- divides it, and never if that is 0
abbrev pub is_due : ℕ → ℕ → Bool
is_due every number = if every == 0 then false else number % every == 0

-- the units of consecutive data fields, by the number of the first one in the run and its first byte in the stream
abbrev pub AreUnits : Transmitter → ℕ → ℕ → List (List ℕ) → List (List ℕ) → Type 0
AreUnits t number at [] [] = ⊤
AreUnits t number at [] (unit ∷ units) = ⊥
AreUnits t number at (field ∷ fields) [] = ⊥
AreUnits t number at (field ∷ fields) (unit ∷ units) =
    IsUnitOf t.link (is_due t.dummy_every number) (header_at t.link.setup.roll_off at field) field unit
    × AreUnits t (number + 1) (at + length field) fields units

-- a run that cannot read stopped: within the next packet, or after its limit of packets
abbrev pub StopsReading : ℕ → ℕ → List ℕ → Type 0
StopsReading most packets rest = ((packets < most) × (length rest < packet_bytes)) ⊎ ((packets ≡ most) × (rest ≡ []))

-- By the result of a run: how many packets were accepted, which bytes were read after them, and which data fields have
-- their units written whole. After `Ok` these are all fields, else the full ones
abbrev pub Outcome : ℕ → ℕ → (ℕ → Type 0) → List (List ℕ) → List ℕ → List (List ℕ) → Result Counts SendFault → Type 0
Outcome most size MayFail packets rest fields (Ok counts) =
    (length packets < most) × (rest ≡ []) × (fields ≡ fields_of size (stream_of packets))
    × (counts.packets ≡ length packets) × (counts.frames ≡ length fields)
Outcome most size MayFail packets rest fields (Err NotWholePacket) =
    (length packets < most) × (0 < length rest) × (length rest < packet_bytes) × (fields ≡ full_fields size (stream_of packets))
Outcome most size MayFail packets rest fields (Err (NoSync packet told)) =
    (length packets < most) × (length rest ≡ packet_bytes) × (slice_index rest 0 ≢ sync) × (packet ≡ length packets + 1)
    × (fields ≡ full_fields size (stream_of packets)) × (told ≡ size_told packet rest)
Outcome most size MayFail packets rest fields (Err Read) =
    MayFail (length packets) × StopsReading most (length packets) rest × (fields ≡ full_fields size (stream_of packets))
Outcome most size MayFail packets rest fields (Err Write) = (length packets ≤ most) × (rest ≡ [])

-- the reader is at its end if the result says so
abbrev pub EndsThere : Result Counts SendFault → Option (List ℕ) → Type 0
EndsThere (Ok counts) reader_new = IsAtEnd reader_new
EndsThere (Err NotWholePacket) reader_new = IsAtEnd reader_new
EndsThere (Err fault) reader_new = ⊤

-- The unit of the field after these could not be written. It is the last full field of the packets' stream, or the last
-- one of all if the reader has ended. A part of its unit was written, from the first byte on, and not all
pub record BreaksOff (t : Transmitter) (reader_new : Option (List ℕ)) (packets fields : List (List ℕ)) (begun : List ℕ) : Type 0 where
  pub field : List ℕ
  pub unit : List ℕ
  pub is_last :
      (fields ++ field ∷ [] ≡ full_fields (field_bytes t.link.setup.mode) (stream_of packets))
      ⊎ ((fields ++ field ∷ [] ≡ fields_of (field_bytes t.link.setup.mode) (stream_of packets)) × IsAtEnd reader_new)
  pub is_unit : IsUnitOf t.link (is_due t.dummy_every (length fields + 1)) (header_at t.link.setup.roll_off (length (joined fields)) field) field unit
  pub is_part : (k : ℕ) × (k < length unit) × (begun ≡ take k unit)

-- nothing is written after the whole units, or the beginning of the next one if a write failed
abbrev pub Begins : Transmitter → Option (List ℕ) → List (List ℕ) → List (List ℕ) → List ℕ → Result Counts SendFault → Type 0
Begins t reader_new packets fields begun (Err Write) = BreaksOff t reader_new packets fields begun
Begins t reader_new packets fields begun result = begun ≡ []

-- A run of a transmitter accepted these packets, and read the rest after them and no more. It wrote the units of these
-- data fields, and then only the beginning of a unit that failed. `MayFail` says after how many packets a read may fail
pub record TransmitterRuns (t : Transmitter) (MayFail : ℕ → Type 0) (reader_old reader_new writer_old writer_new : Option (List ℕ)) (result : Result Counts SendFault) : Type 0 where
  pub packets : List (List ℕ)
  pub rest : List ℕ
  pub fields : List (List ℕ)
  pub units : List (List ℕ)
  -- the bytes written after the units
  pub begun : List ℕ
  pub each_is_packet : All IsPacket packets
  pub read : Consumes reader_old reader_new (joined packets ++ rest)
  pub ends : EndsThere result reader_new
  pub outcome : Outcome t.limit (field_bytes t.link.setup.mode) MayFail packets rest fields result
  pub are_units : AreUnits t 1 0 fields units
  pub begins : Begins t reader_new packets fields begun result
  pub written : Appends writer_old writer_new (joined units ++ begun)

-- the codewords of consecutive data fields, by the first byte of the first one in the stream
abbrev pub AreCodewords : Link → ℕ → List (List ℕ) → List (List Bool) → Type 0
AreCodewords link at [] [] = ⊤
AreCodewords link at [] (codeword ∷ codewords) = ⊥
AreCodewords link at (field ∷ fields) [] = ⊥
AreCodewords link at (field ∷ fields) (codeword ∷ codewords) =
    IsCodewordFor link.setup.mode link.rows (header_at link.setup.roll_off at field) field codeword
    × AreCodewords link (at + length field) fields codewords

-- What became of a sink after it took the codewords of the whole units. It is unchanged. But if a write failed, it took the
-- codeword of the unit that is broken off; or it failed to take that one, and nothing of the unit is written
abbrev pub EndsTaking : {S : Type 0} → (takes fails : Taking S) → (t : Transmitter) → (reader_new : Option (List ℕ)) → (packets fields : List (List ℕ)) → (begun : List ℕ) → (result : Result Counts SendFault) → Begins t reader_new packets fields begun result → (sink_old sink_new : S) → Type 0
EndsTaking takes fails t reader_new packets fields begun (Err Write) breaks sink_old sink_new =
    (codeword : List Bool)
    × IsCodewordFor t.link.setup.mode t.link.rows (header_at t.link.setup.roll_off (length (joined fields)) breaks.field) breaks.field codeword
    × (takes sink_old sink_new codeword ⊎ (fails sink_old sink_new codeword × (begun ≡ [])))
EndsTaking takes fails t reader_new packets fields begun result nothing sink_old sink_new = sink_new ≡ sink_old

-- A run of a transmitter with a sink. It is a run without one. The sink took the codewords of the units that were
-- written, one after another, each before its unit was written
pub record RunsWith {S : Type 0} (takes fails : Taking S) (t : Transmitter) (MayFail : ℕ → Type 0) (reader_old reader_new writer_old writer_new : Option (List ℕ)) (sink_old sink_new : S) (result : Result Counts SendFault) : Type 0 where
  pub run : TransmitterRuns t MayFail reader_old reader_new writer_old writer_new result
  pub codewords : List (List Bool)
  pub are_codewords : AreCodewords t.link 0 run.fields codewords
  -- the sink after the last whole unit
  pub sink : S
  pub takes_all : TakesCodewords takes sink_old sink codewords
  pub ends_taking : EndsTaking takes fails t reader_new run.packets run.fields run.begun result run.begins sink sink_new
