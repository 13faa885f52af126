-- A source of recorded frames: records, and a copy of the recording (own).
use Rattle.std.specs.Prelude.{◌≡◌, ◌≢◌, ◌⊎◌, ℕ, ◌+◌, ◌≤◌, max, List, [], ◌∷◌, ◌++◌, drop, Option, Some, None, IfSome, Result, Ok, Err, ⊤}
use Rattle.std.specs.Io.KnownBytes.{IsAtEnd}
use Rattle.s2_mode.specs.Mode.{n_of}
use Rattle.s2_mode.specs.Symbols.{symbols_of}
use Rattle.s2_mode.specs.declared.symbols.Symbol.{Symbol}
use Rattle.s2_rows.specs.Rows.{Rows}
use Rattle.s2_certfile.specs.Format.{file_of_bytes}
use Rattle.s2_check.specs.CertificateFiles.{Suits}
use Rattle.s2_receive.specs.Limits.{max_symbols}
use Rattle.s2_receive.specs.Receiving.{Decision}
use Rattle.s2_stitch.specs.Frames.{IsFrameOf, IsTrueRecord, RecordedFrame, Terms, file_in, frame_at}
use Rattle.s2_stitch.specs.Reading.{CountsRead}
use Rattle.s2_stitch.specs.Records.{AreRecords, Record}
use Rattle.s2_stitch.specs.declared.fault.SourceFault.{SourceFault}
use Rattle.s2_stitch.specs.declared.fault.SourceFault.TheVariants as faults

-- a source: how frames are read, the unread bytes of the records and of the copy, if they are known, and how many reads of each have
-- failed. Then the copy's position in symbols, and the fault that stopped the source
pub record RecordSource : Type 0 where
  pub terms : Terms
  pub records : Option (List ℕ)
  pub copy : Option (List ℕ)
  pub record_reads : ℕ
  pub copy_reads : ℕ
  pub place : ℕ
  pub fault : Option SourceFault

-- one of two readers
abbrev pub source_by : {Q C : Type 0} → (Q → Option (List ℕ)) → (Q → ℕ) → (C → Option (List ℕ)) → (C → ℕ) → Terms → Q → C → (place : ℕ) → Option SourceFault → RecordSource
source_by remaining count remaining_copy count_copy t records copy place fault =
    record { terms = t; records = remaining records; copy = remaining_copy copy; record_reads = count records; copy_reads = count_copy copy; place = place; fault = fault }

-- ---- reading

-- these records were read, one after another, and no others
abbrev pub AreRead : (n : ℕ) → List Record → (old new : Option (List ℕ)) → Type 0
AreRead n records None new = ⊤
AreRead n records (Some bytes) None = ⊥
AreRead n records (Some bytes) (Some left) = AreRecords n records bytes left

-- A record whose frame may come from this position on, within the symbols that a receiver takes. Its certificate suits the rows
pub record IsOfUse (rows : Rows) (from : ℕ) (r : Record) : Type 0 where
  pub ahead : from ≤ r.at
  pub reached : r.at ≤ max_symbols
  pub suits : IfSome (file_in (file_of_bytes r.certificate)) (Suits rows)

-- none of these records is one
abbrev pub ArePassed : Rows → (from : ℕ) → List Record → Type 0
ArePassed rows from [] = ⊤
ArePassed rows from (r ∷ later) = ¬ IsOfUse rows from r × ArePassed rows from later

-- records were read; a frame is that of the last one, and the others were passed
abbrev pub ReadsFrame : Terms → (from : ℕ) → (old new : Option (List ℕ)) → Option RecordedFrame → Type 0
ReadsFrame t from old new None = (passed : List Record) × AreRead (n_of t.mode) passed old new
ReadsFrame t from old new (Some f) = (passed : List Record) × (r : Record) × AreRead (n_of t.mode) (passed ++ r ∷ []) old new × ArePassed t.rows from passed × IsFrameOf t r f

-- the bytes that are left are those of a recording from this position on, unless none is left
abbrev pub IsCopyFrom : (recording : List Symbol) → (place : ℕ) → (left : Option (List ℕ)) → Type 0
IsCopyFrom recording place None = ⊥
IsCopyFrom recording place (Some left) = left ≢ [] → drop place recording ≡ symbols_of left

-- a copy of a recording was read from one position to another; a frame has the symbols at its position
abbrev pub ReadsCopy : Terms → (place place_new : ℕ) → (old new : Option (List ℕ)) → Option RecordedFrame → Type 0
ReadsCopy t place place_new old new frame =
    (recording : List Symbol) → IsCopyFrom recording place old → IsCopyFrom recording place_new new × IfSome frame (λ f. f.symbols ≡ frame_at t recording f.at)

-- an end record was read last, and the copy up to the symbol after its position
abbrev pub ReadsEnd : Terms → (place_new : ℕ) → (old new : Option (List ℕ)) → Type 0
ReadsEnd t place_new old new = (passed : List Record) × (r : Record) × AreRead (n_of t.mode) (passed ++ r ∷ []) old new × (r.verdict ≡ None) × (place_new ≡ r.at + 1)

-- The next frame at this position or after it was read, not before the position up to which the copy was read. Or the records or the
-- copy are at their end, or an end record says that no other frame comes
pub record ReadsNext (t : Terms) (at place place_new : ℕ) (records records_new copy copy_new : Option (List ℕ)) (frame : Option RecordedFrame) : Type 0 where
  pub reads : ReadsFrame t (max at place) records records_new frame
  pub copies : ReadsCopy t place place_new copy copy_new frame
  pub from : IfSome frame (λ f. max at place ≤ f.at)
  pub none : frame ≡ None → (IsAtEnd records_new ⊎ IsAtEnd copy_new) ⊎ ReadsEnd t place_new records records_new

-- the result of reading the next frame
abbrev pub ReadsResult : Terms → (at place place_new : ℕ) → (records records_new copy copy_new : Option (List ℕ)) → Result (Option RecordedFrame) SourceFault → Type 0
ReadsResult t at place place_new records records_new copy copy_new (Ok frame) = ReadsNext t at place place_new records records_new copy copy_new frame
ReadsResult t at place place_new records records_new copy copy_new (Err fault) = ⊤

-- only failed reads are counted: one of the records or of the copy, as the fault says
abbrev pub CountsSource : Option SourceFault → (records records_new copy copy_new : ℕ) → Type 0
CountsSource None q q' c c' = (q' ≡ q) × (c' ≡ c)
CountsSource (Some (faults.Records fault)) q q' c c' = CountsRead {A = ⊤} q q' (Err fault) × (c' ≡ c)
CountsSource (Some faults.Recording) q q' c c' = (q' ≡ q) × (c' ≡ c + 1)
CountsSource (Some faults.OtherRecording) q q' c c' = (q' ≡ q) × (c' ≡ c)
CountsSource (Some faults.NoMemory) q q' c c' = (q' ≡ q) × (c' ≡ c)

-- the fault of a result
abbrev pub fault_in : {A : Type 0} → Result A SourceFault → Option SourceFault
fault_in (Ok value) = None
fault_in (Err fault) = Some fault

-- the next frame was read, or none is left; after a fault there is none
abbrev pub GivesBy : Option SourceFault → ℕ → (old new : RecordSource) → Option RecordedFrame → Type 0
GivesBy None at old new frame = ReadsNext old.terms at old.place new.place old.records new.records old.copy new.copy frame
GivesBy (Some fault) at old new frame = frame ≡ None

-- it has no fault, and the copy is not read beyond this position
abbrev pub IsOpen : ℕ → RecordSource → Type 0
IsOpen at s = (s.fault ≡ None) × (s.place ≤ at)

-- What a source gives for the next frame, at this position or after it. After a fault it gives nothing and reads nothing. So it does
-- before the position up to which the copy was read: no other frame comes there
pub record Gives (at : ℕ) (old new : RecordSource) (frame : Option RecordedFrame) : Type 0 where
  pub terms : new.terms ≡ old.terms
  pub gives : IsOpen at old → GivesBy new.fault at old new frame
  pub counts : old.fault ≡ None → CountsSource new.fault old.record_reads new.record_reads old.copy_reads new.copy_reads
  pub closed : ¬ IsOpen at old → (new ≡ old) × (frame ≡ None)

-- ---- true records

-- each record that can be read of these bytes, one after another, is true
abbrev pub AreTrueIn : Terms → (decide : List Symbol → Decision) → (recording : List Symbol) → Option (List ℕ) → Type 0
AreTrueIn t decide recording None = ⊥
AreTrueIn t decide recording (Some bytes) =
    (before : List Record) (r : Record) (rest : List ℕ) → AreRecords (n_of t.mode) (before ++ r ∷ []) bytes rest → IsTrueRecord t decide recording r

-- the records that are left are true for the recording that the copy is of
pub record AreTrueLeft (decide : List Symbol → Decision) (s : RecordSource) : Type 0 where
  pub recording : List Symbol
  pub copy_is : IsCopyFrom recording s.place s.copy
  pub true_are : AreTrueIn s.terms decide recording s.records
