-- What `judge --each` prints of frames that follow each other in a value file, and the certificates that it writes
-- (own).
use Rattle.std.specs.Prelude.{◌≡◌, ◌≢◌, ◌⊎◌, ℕ, ℤ, ◌+◌, ◌<◌, Bool, true, false, All, ⊤, List, [], ◌∷◌, length, Option, Some, None, IfSome, Result, Ok, Err}
use Rattle.std.specs.Io.KnownBytes.{Appends}
use Rattle.std.specs.List.{flat_map, list_all}
use Rattle.s2_mode.specs.Pieces.{AppendsPart}
use Rattle.s2_mode.specs.Shape.{Shape}
use Rattle.s2_rows.specs.Rows.{Rows}
use Rattle.s2_rows.specs.declared.values.ValueFault.{ValueFault}
use Rattle.s2_matrix.specs.Code.{code_of}
use Rattle.s2_check.specs.CertificateBytes.{bytes_of}
use Rattle.s2_check.specs.Views.{View}
use Rattle.s2_tuning.specs.Tuning.{Tuning}
use Rattle.s2_judge.specs.Deciding.{decided, IsShown}
use Rattle.s2_io.specs.declared.exit.Exit.{Exit}
use Rattle.s2_io.specs.declared.fault.Fault.{Fault}
use Rattle.s2_io.specs.declared.fault.Fault.TheVariants as faults
use Rattle.s2_io.specs.Exits.{Follows, CommandCounts}
use Rattle.s2_io.specs.Screens.{Screen}
use Rattle.s2_judging.specs.declared.hard_note.Ran.{Ran}
use Rattle.s2_judging.specs.Certifying.{Wrote, WrotePart}
use Rattle.s2_evidence.specs.Each.{SaysEach}
use Rattle.s2_judging.specs.Files.{Written, JudgeFiles}
use Rattle.s2_judging.specs.Bytewise.{TakesFrame}
use Rattle.s2_judging.specs.Frames.{words_in, Reads, AreRead, IsRefusedFrame, max_text}
use Rattle.s2_judging.specs.HardNotes.{is_bit, look_hard, exit_in, Concludes}
use Rattle.s2_inputs.specs.Inputs.{rows_in}
use Rattle.s2_judging.specs.Judging.{IsJudged}

-- the maximum number of frames of one run, 2^32 - 1
abbrev pub max_frames : ℕ
max_frames = 4294967295

-- ---- certificates

-- the certificate of the bits that are decided on a frame, if there is one
abbrev pub certificate_of : Rows → Tuning → List ℤ → Option View
certificate_of rows tuning frame = (decided rows tuning frame).certificate

-- its bytes
abbrev pub certificate_bytes : Option View → List ℕ
certificate_bytes None = []
certificate_bytes (Some view) = bytes_of view

-- the certificates of frames, one after another
abbrev pub certificates_of : Rows → Tuning → List (List ℤ) → List ℕ
certificates_of rows tuning frames = flat_map (λ frame. certificate_bytes (certificate_of rows tuning frame)) frames

-- if there is a file, it was begun, and these bytes written
pub record WroteBytes (bytes : List ℕ) (old new : Written) : Type 0 where
  pub asked : new.asked ≡ old.asked
  pub begun : new.begun ≡ old.asked
  pub counted : new.failed ≡ old.failed
  pub appended : Appends old.contents new.contents bytes

-- the certificates of these frames were written; before the first frame is accepted the file is unchanged
abbrev pub WroteEach : Rows → Tuning → List (List ℤ) → Written → Written → Type 0
WroteEach rows tuning [] old new = new ≡ old
WroteEach rows tuning (frame ∷ frames) old new = WroteBytes (certificates_of rows tuning (frame ∷ frames)) old new

-- ---- frames

-- frames were read one after another, n values each; their certificates are written, and their lines printed, with this
-- exit so far
pub record JudgedSoFar (hard : Bool) (rows : Rows) (tuning : Tuning) (before after : Option (List (Result ℤ ValueFault))) (frames : List (List ℤ)) (exit : Exit)
    (file file_after : Written) (old new : Option (List ℕ)) : Type 0 where
  pub text : List ℕ
  pub long : All (λ frame. length frame ≡ (code_of rows).bits) frames
  pub read : Reads before after (flat_map (λ frame. frame) frames)
  pub shown : All (λ frame. IsShown rows frame (decided rows tuning frame)) frames
  pub wrote : WroteEach rows tuning frames file file_after
  pub said : SaysEach (λ frame. IsJudged hard tuning (rows, frame)) frames exit text
  pub printed : Appends old new text

-- A frame was judged, and a writer failed: a part of its certificate is written, and no line printed; or its
-- certificate is written, and a part of its line is printed
pub record CutFrame (hard : Bool) (rows : Rows) (tuning : Tuning) (frame : List ℤ) (file file_after : Written) (old new : Option (List ℕ)) : Type 0 where
  pub exit : Exit
  pub line : List ℕ
  pub shown : IsShown rows frame (decided rows tuning frame)
  pub said : IsJudged hard tuning (rows, frame) exit line
  pub part : (WrotePart (certificate_of rows tuning frame) file file_after × (new ≡ old))
      ⊎ (Wrote (certificate_of rows tuning frame) file file_after × AppendsPart line old new)

-- the next frame was read, and this was done with it
pub record TakesNext (rows : Rows) (before after : Option (List (Result ℤ ValueFault))) (Done : List ℤ → Type 0) : Type 0 where
  pub frame : List ℤ
  pub long : length frame ≡ (code_of rows).bits
  pub read : Reads before after frame
  pub done : Done frame

-- there is no frame at all, and the certificates' file could not be truncated
pub record CutStart (words : Option (List (Result ℤ ValueFault))) (frames : List (List ℤ)) (file file_after : Written) (old new : Option (List ℕ)) : Type 0 where
  pub none : frames ≡ []
  pub end : AreRead words
  pub begun : WrotePart None file file_after
  pub unprinted : new ≡ old

-- why no more frames are judged if no writer failed: the next frame is refused, a read failed, there was no memory to
-- judge the first one, or there are too many frames or bytes
abbrev pub StopsJudging : ℕ → Option (List ℕ) → Option (List (Result ℤ ValueFault)) → List (List ℤ) → Fault → Type 0
StopsJudging n known words frames faults.Read = ⊤
StopsJudging n known words frames faults.NoMemory = frames ≡ []
StopsJudging n known words frames faults.TooLong = IfSome known (λ xs. max_text < length xs) ⊎ (length frames ≡ max_frames)
StopsJudging n known words frames fault = IsRefusedFrame n words fault

-- After these frames comes the end of the file, and the run is theirs. Or only a part of the next frame is written. Or
-- a fault comes, and no more is written
abbrev pub EndsJudging : (hard : Bool) → Rows → Tuning → Option (List ℕ) → Option (List (Result ℤ ValueFault)) → List (List ℤ) → Exit → Written → Written → Written → Option (List ℕ) → Option (List ℕ) → Result Ran Fault → Type 0
EndsJudging hard rows tuning known words frames exit start file file_after old new (Ok ran) =
    (ran ≡ record { exit = exit; looks_hard = look_hard frames }) × AreRead words × WroteBytes (certificates_of rows tuning frames) start file_after × (new ≡ old)
EndsJudging hard rows tuning known words frames exit start file file_after old new (Err faults.Write) =
    ((after : Option (List (Result ℤ ValueFault))) × TakesNext rows words after (λ frame. CutFrame hard rows tuning frame file file_after old new))
    ⊎ CutStart words frames file file_after old new
EndsJudging hard rows tuning known words frames exit start file file_after old new (Err fault) =
    StopsJudging (code_of rows).bits known words frames fault × (file_after ≡ file) × (new ≡ old)

-- `judge --each` under these rows, on a file with these words. Each frame's certificate is written, then its line
-- printed, and then the next frame is judged
pub record JudgesUnder (hard : Bool) (rows : Rows) (tuning : Tuning) (known : Option (List ℕ)) (words : Option (List (Result ℤ ValueFault))) (file file_after : Written)
    (ran : Result Ran Fault) (old new : Option (List ℕ)) : Type 0 where
  pub frames : List (List ℤ)
  pub exit : Exit
  pub read_to : Option (List (Result ℤ ValueFault))
  pub written_to : Written
  pub printed_to : Option (List ℕ)
  pub so_far : JudgedSoFar hard rows tuning words read_to frames exit file written_to old printed_to
  pub ends : EndsJudging hard rows tuning known read_to frames exit file written_to file_after printed_to new ran

-- it ended before a value was read: the rows are refused or cannot be read, or memory ran out
pub record FailsEarly (shape : Shape) (files files_after : JudgeFiles) (ran : Result Ran Fault) (old new : Option (List ℕ)) : Type 0 where
  pub fault : Fault
  pub failed : ran ≡ Err fault
  pub other : fault ≢ faults.Write
  pub refused : IfSome files.rows (λ xs. Follows {V = Rows} (λ rows. rows) (Err fault) (rows_in shape xs))
  pub unwritten : files_after.certificate ≡ files.certificate
  pub unprinted : new ≡ old

-- it ran on rows that are accepted
pub record JudgesAccepted (shape : Shape) (hard : Bool) (tuning : Tuning) (files files_after : JudgeFiles) (ran : Result Ran Fault) (old new : Option (List ℕ)) : Type 0 where
  pub rows : Rows
  pub accepted : IfSome files.rows (λ xs. rows_in shape xs ≡ Ok rows)
  pub judges : JudgesUnder hard rows tuning files.soft (words_in hard files.soft) files.certificate files_after.certificate ran old new

-- `judge --each` on its files
abbrev pub JudgesEach : (hard : Bool) → Tuning → Shape → JudgeFiles → JudgeFiles → Result Ran Fault → Option (List ℕ) → Option (List ℕ) → Type 0
JudgesEach hard tuning shape files files_after ran old new =
    FailsEarly shape files files_after ran old new ⊎ JudgesAccepted shape hard tuning files files_after ran old new

-- `judge --each` has ended: it ran on its files, only failed calls were counted, and its note or the line of a fault is
-- on the errors
abbrev pub JudgeEachExits : (hard quiet : Bool) → Tuning → Shape → JudgeFiles → JudgeFiles → Screen → Screen → Exit → Type 0
JudgeEachExits hard quiet tuning shape files files_after old new exit =
    (ran : Result Ran Fault) × JudgesEach hard tuning shape files files_after ran old.output new.output
    × CommandCounts (exit_in ran) (files.rows_failed + files.soft_failed) (files_after.rows_failed + files_after.soft_failed)
    (files.certificate.failed + old.output_failed) (files_after.certificate.failed + new.output_failed)
    × Concludes hard quiet ran exit old new

-- ---- one step

-- a frame was judged, its certificate written, and its line printed
pub record JudgesFrame (hard : Bool) (rows : Rows) (tuning : Tuning) (frame : List ℤ) (file file_after : Written) (old new : Option (List ℕ)) (ran : Ran) : Type 0 where
  pub line : List ℕ
  pub shown : IsShown rows frame (decided rows tuning frame)
  pub said : IsJudged hard tuning (rows, frame) ran.exit line
  pub looks : ran.looks_hard ≡ list_all is_bit frame
  pub wrote : Wrote (certificate_of rows tuning frame) file file_after
  pub printed : Appends old new line

abbrev pub JudgesOne : (hard : Bool) → Rows → Tuning → List ℤ → Written → Written → Option (List ℕ) → Option (List ℕ) → Result Ran Fault → Type 0
JudgesOne hard rows tuning frame file file_after old new (Ok ran) = JudgesFrame hard rows tuning frame file file_after old new ran
JudgesOne hard rows tuning frame file file_after old new (Err faults.Write) = CutFrame hard rows tuning frame file file_after old new
JudgesOne hard rows tuning frame file file_after old new (Err fault) = ⊥

-- the next frame was judged, or a writer failed; there was none, or it is refused
abbrev pub JudgesNext : (hard : Bool) → Rows → Tuning → Option (List (Result ℤ ValueFault)) → Option (List (Result ℤ ValueFault)) → Option (List ℕ) → ℕ → Written → Written → Option (List ℕ) → Option (List ℕ)
    → Result (Option Ran) Fault → Type 0
JudgesNext hard rows tuning before after remaining left file file_after old new (Ok None) = AreRead before × (file_after ≡ file) × (new ≡ old)
JudgesNext hard rows tuning before after remaining left file file_after old new (Ok (Some ran)) =
    TakesNext rows before after (λ frame. JudgesFrame hard rows tuning frame file file_after old new ran)
JudgesNext hard rows tuning before after remaining left file file_after old new (Err faults.Write) =
    TakesNext rows before after (λ frame. CutFrame hard rows tuning frame file file_after old new)
JudgesNext hard rows tuning before after remaining left file file_after old new (Err fault) =
    TakesFrame (code_of rows).bits before after [] remaining left (Err fault) × (file_after ≡ file) × (new ≡ old)

-- a run ended, and the certificates' file was begun, unless it could not be truncated
abbrev pub Finishes : Ran → Written → Written → Result Ran Fault → Type 0
Finishes ran file file_after (Ok ended) = (ended ≡ ran) × Wrote None file file_after
Finishes ran file file_after (Err faults.Write) = WrotePart None file file_after × (file.asked ≡ true) × (file.begun ≡ false)
Finishes ran file file_after (Err fault) = ⊥
