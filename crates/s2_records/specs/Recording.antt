-- The records of the frames of a piece of a recording (own).
use Rattle.std.specs.Prelude.{◌≡◌, ℕ, ℤ, Bool, true, false, if◌then◌else◌, List, [], replicate, Option, Some, None, Ok, ⊤}
use Rattle.std.specs.List.{flat_map}
use Rattle.std.specs.Io.KnownBytes.{Appends}
use Rattle.s2_mode.specs.Pieces.{AppendsPart}
use Rattle.s2_certfile.specs.Format.{file_of_bytes}
use Rattle.s2_check.specs.CertificateBytes.{bytes_of, file_of}
use Rattle.s2_check.specs.Views.{View}
use Rattle.s2_report.specs.Figures.{saturated}
use Rattle.s2_report.specs.declared.figures.Figures.{Figures}
use Rattle.s2_receive.specs.Receiving.{Decision}
use Rattle.s2_receive.specs.Sinks.{TakesFrames, Taking}
use Rattle.s2_receive.specs.declared.sinks.FrameStart.{FrameStart}
use Rattle.s2_stitch.specs.Records.{Record, record_bytes, seal_of}
use Rattle.s2_records.specs.Records.{certificate_record}

-- the rounds of min-sum, which are among the figures; 0 without figures
abbrev pub rounds_of : Option Figures → ℕ
rounds_of None = 0
rounds_of (Some figures) = figures.rounds

-- the file of a frame's certificate, if certificates are recorded; nothing if the frame has none
abbrev pub recorded_certificate : (certificates : Bool) → Decision → List ℕ
recorded_certificate certificates decision = if certificates then certificate_record decision else []

-- what the record of the decision on the frame at a position of the recording says, without a seal
abbrev pub said_of : (certificates : Bool) → (at : ℕ) → Decision → Record
said_of certificates at decision = record {
  at = at;
  seal = 0;
  rounds = rounds_of decision.figures;
  verdict = Some decision.verdict;
  bits = decision.bits;
  certificate = recorded_certificate certificates decision;
}

-- a record with the seal of a frame of these soft values
abbrev pub sealed : (seed : ℕ) → (soft : List ℤ) → Record → Record
sealed seed soft r = record r { seal = seal_of seed soft r }

-- the record of the decision on the frame at a position of the recording
abbrev pub record_of : (certificates : Bool) → (seed at : ℕ) → Decision → Record
record_of certificates seed at decision = sealed seed decision.soft (said_of certificates at decision)

-- the end record of a piece of frames of n bits: no other frame of it begins at this position or before it
abbrev pub end_record : (seed n last : ℕ) → Record
end_record seed n last = sealed seed [] (record { at = last; seal = 0; rounds = 0; verdict = None; bits = replicate n false; certificate = [] })

-- A recorder: the position in the recording at which its piece begins, the seed of the seals, whether it records certificates, and
-- its writer. Then the number of records of frames that it has written, and how often memory was refused
pub record Recorder (W : Type 0) : Type 0 where
  pub from : ℕ
  pub seed : ℕ
  pub certificates : Bool
  pub to : W
  pub records : ℕ
  pub refused : ℕ

-- the file of a certificate is read again as this certificate's, if it is recorded
abbrev pub IsReadBack : (certificates : Bool) → Option View → Type 0
IsReadBack true (Some view) = file_of_bytes (bytes_of view) ≡ Ok (file_of view)
IsReadBack true None = ⊤
IsReadBack false certificate = ⊤

-- its writer took exactly the record of a frame
pub record GainsRecord {W : Type 0} (contents : W → Option (List ℕ)) (old new : Recorder W) (at : ℕ) (decision : Decision) : Type 0 where
  pub bytes : Appends (contents old.to) (contents new.to) (record_bytes (record_of old.certificates old.seed (saturated old.from at) decision))
  pub read_back : IsReadBack old.certificates decision.certificate
  pub counted : new.records ≡ saturated old.records 1
  pub same : (new.from ≡ old.from) × (new.seed ≡ old.seed) × (new.certificates ≡ old.certificates)

-- a recorder took a frame that begins there: its writer took exactly the record of the frame
abbrev pub TakesRecord : {W : Type 0} → (W → Option (List ℕ)) → Taking (Recorder W)
TakesRecord contents old new start decision = GainsRecord contents old new start.at decision

-- a write failed, or memory was refused: its writer took a part of these bytes, from the first one on, and not all
abbrev pub FailsRecord : {W : Type 0} → (W → Option (List ℕ)) → Taking (Recorder W)
FailsRecord contents old new start decision =
    AppendsPart (record_bytes (record_of old.certificates old.seed (saturated old.from start.at) decision)) (contents old.to) (contents new.to)

-- a recorder ended its records: its writer took exactly this end record, which is not counted
pub record GainsEnd {W : Type 0} (contents : W → Option (List ℕ)) (old new : Recorder W) (n last : ℕ) : Type 0 where
  pub bytes : Appends (contents old.to) (contents new.to) (record_bytes (end_record old.seed n last))
  pub same : (new.from ≡ old.from) × (new.seed ≡ old.seed) × (new.certificates ≡ old.certificates) × (new.records ≡ old.records)

-- a write of an end record failed, or memory was refused: its writer took a part of these bytes, from the first one on, and not all
abbrev pub FailsEnd : {W : Type 0} → (W → Option (List ℕ)) → (old new : Recorder W) → (n last : ℕ) → Type 0
FailsEnd contents old new n last = AppendsPart (record_bytes (end_record old.seed n last)) (contents old.to) (contents new.to)

-- the records of frames, one after another, by a recorder of a piece that begins at this position
abbrev pub recorded : (certificates : Bool) → (from seed : ℕ) → List (FrameStart × Decision) → List ℕ
recorded certificates from seed frames = flat_map (λ frame. record_bytes (record_of certificates seed (saturated from frame.0.at) frame.1)) frames

-- a recorder that took frames has written their records, one after another
abbrev pub RecordedLaw : {W : Type 0} → (W → Option (List ℕ)) → Type 0
RecordedLaw {W} contents =
    (old new : Recorder W) (frames : List (FrameStart × Decision)) → TakesFrames (TakesRecord contents) old new frames → Appends (contents old.to) (contents new.to) (recorded old.certificates old.from old.seed frames)
