-- What `compare` prints of certificates that follow each other, and of a device's words for them (own).
use Rattle.std.specs.Prelude.{◌≡◌, ◌≢◌, ◌⊎◌, ℕ, ◌+◌, List, Bool, length, map, All, Option, IfSome, Result, Ok, Err}
use Rattle.std.specs.Io.KnownBytes.{Consumes, Appends}
use Rattle.std.specs.List.{flat_map}
use Rattle.s2_mode.specs.Pieces.{AppendsPart}
use Rattle.s2_rows.specs.Rows.{Rows}
use Rattle.s2_certfile.specs.File.{File}
use Rattle.s2_certfile.specs.Format.{file_of_bytes}
use Rattle.s2_io.specs.declared.exit.Exit.{Exit}
use Rattle.s2_io.specs.declared.fault.Fault.{Fault}
use Rattle.s2_io.specs.declared.fault.Fault.TheVariants as faults
use Rattle.s2_io.specs.Exits.{Follows, exit_of, CommandCounts, Complains}
use Rattle.s2_io.specs.Screens.{Screen}
use Rattle.s2_inputs.specs.Inputs.{rows_in}
use Rattle.s2_compare.specs.declared.compared.Compared.{Compared}
use Rattle.s2_compare.specs.declared.form.Form.{Form}
use Rattle.s2_compare.specs.Comparing.{Compares}
use Rattle.s2_compare.specs.Counting.{counts_of, exit_by}
use Rattle.s2_compare.specs.Devices.{Says, record_size, shape_for}
use Rattle.s2_compare.specs.Feeding.{Feeds, feeds, BothEnd, StopsNext}
use Rattle.s2_compare.specs.Lines.{lines_from, counts_line}

-- the maximum number of frames of one run, 2^32 - 1
abbrev pub max_frames : ℕ
max_frames = 4294967295

-- a frame: the bytes of its certificate and of the device's record, what they say, and the answer
pub record Frame : Type 0 where
  pub piece : List ℕ
  pub record_bytes : List ℕ
  pub file : File
  pub device : Option (List Bool)
  pub answer : Compared

-- a frame's certificate and record are read, and its answer is true
pub record IsFrame (form : Form) (rows : Rows) (frame : Frame) : Type 0 where
  pub certificate : file_of_bytes frame.piece ≡ Ok frame.file
  pub long : length frame.record_bytes ≡ record_size form
  pub word : Says form rows frame.record_bytes frame.device
  pub compared : Compares rows frame.file frame.device frame.answer

-- how each frame compares
abbrev pub answers_of : List Frame → List Compared
answers_of frames = map (λ frame. frame.answer) frames

-- the bytes of both files were read frame by frame, from the first one on, and the lines of these frames printed
pub record ComparedSoFar (form : Form) (rows : Rows) (before after : Feeds) (frames : List Frame) (old new : Option (List ℕ)) : Type 0 where
  pub each : All (IsFrame form rows) frames
  pub certificates : Consumes before.certificates after.certificates (flat_map (λ frame. frame.piece) frames)
  pub words : Consumes before.words after.words (flat_map (λ frame. frame.record_bytes) frames)
  pub printed : Appends old new (lines_from 1 (answers_of frames))

-- both files are at their end, and the line of the counts was printed
pub record EndsWell (before after : Feeds) (frames : List Frame) (exit : Exit) (old new : Option (List ℕ)) : Type 0 where
  pub ends : BothEnd before after
  pub exit_is : exit ≡ exit_by (counts_of (answers_of frames))
  pub printed : Appends old new (counts_line (counts_of (answers_of frames)))

-- both files are at their end, and only a part of that line was printed
pub record CutAtEnd (before after : Feeds) (frames : List Frame) (fault : Fault) (old new : Option (List ℕ)) : Type 0 where
  pub ends : BothEnd before after
  pub failed : fault ≡ faults.Write
  pub part : AppendsPart (counts_line (counts_of (answers_of frames))) old new

-- there are more frames than can be counted
pub record IsFull (before after : Feeds) (frames : List Frame) (fault : Fault) (old new : Option (List ℕ)) : Type 0 where
  pub full : length frames ≡ max_frames
  pub failed : fault ≡ faults.TooLong
  pub unread : after ≡ before
  pub unprinted : new ≡ old

-- after the lines of these frames the comparison ends, or stops at the next one
abbrev pub EndsComparing : Form → Rows → Feeds → Feeds → List Frame → Option (List ℕ) → Option (List ℕ) → Result Exit Fault → Type 0
EndsComparing form rows before after frames old new (Ok exit) = EndsWell before after frames exit old new
EndsComparing form rows before after frames old new (Err fault) =
    StopsNext form rows (length frames + 1) before after fault old new ⊎ (CutAtEnd before after frames fault old new ⊎ IsFull before after frames fault old new)

-- `compare` under these rows. Each frame's line is printed before the next frame is read
pub record ComparesUnder (form : Form) (rows : Rows) (before after : Feeds) (ended : Result Exit Fault) (old new : Option (List ℕ)) : Type 0 where
  pub frames : List Frame
  pub read_to : Feeds
  pub printed_to : Option (List ℕ)
  pub so_far : ComparedSoFar form rows before read_to frames old printed_to
  pub ends : EndsComparing form rows read_to after frames printed_to new ended

-- memory ran out before the first certificate, and nothing was done
pub record NoMemoryAtAll (before after : Feeds) (ended : Result Exit Fault) (old new : Option (List ℕ)) : Type 0 where
  pub failed : ended ≡ Err faults.NoMemory
  pub unread : after ≡ before
  pub unprinted : new ≡ old

-- the comparison ran under these rows, unless memory ran out before
abbrev pub IsUnder : Form → Rows → Feeds → Feeds → Result Exit Fault → Option (List ℕ) → Option (List ℕ) → Type 0
IsUnder form rows before after ended old new =
    NoMemoryAtAll before after ended old new ⊎ ComparesUnder form rows before after ended old new

-- it ended before a certificate was read: the rows are refused or cannot be read, or memory ran out
pub record FailsEarly (form : Form) (known : Option (List ℕ)) (before after : Feeds) (ended : Result Exit Fault) (old new : Option (List ℕ)) : Type 0 where
  pub fault : Fault
  pub failed : ended ≡ Err fault
  pub other : fault ≢ faults.Write
  pub refused : IfSome known (λ xs. Follows {V = Rows} (λ rows. rows) (Err fault) (rows_in (shape_for form) xs))
  pub unread : after ≡ before
  pub unprinted : new ≡ old

-- it ran on rows that are accepted
pub record ComparesAccepted (form : Form) (known : Option (List ℕ)) (before after : Feeds) (ended : Result Exit Fault) (old new : Option (List ℕ)) : Type 0 where
  pub rows : Rows
  pub accepted : IfSome known (λ xs. rows_in (shape_for form) xs ≡ Ok rows)
  pub compares : ComparesUnder form rows before after ended old new

-- `compare` on a row file with these bytes, and on its other two files
abbrev pub ComparesEach : Form → Option (List ℕ) → Feeds → Feeds → Result Exit Fault → Option (List ℕ) → Option (List ℕ) → Type 0
ComparesEach form known before after ended old new =
    FailsEarly form known before after ended old new ⊎ ComparesAccepted form known before after ended old new

-- the files of `compare`: the unread bytes of the row file and of the two others, and how many calls have failed
pub record Files : Type 0 where
  pub rows : Option (List ℕ)
  pub feeds : Feeds
  pub failed : ℕ

-- the files that these readers read
abbrev pub read_by : {R : Type 0} → (R → Option (List ℕ)) → (R → ℕ) → R → R → R → Files
read_by remaining count rows certificates words =
    record { rows = remaining rows; feeds = feeds (remaining certificates) (remaining words); failed = count rows + (count certificates + count words) }

-- `compare` has ended: it ran on its files, only failed calls were counted, and the line of a fault is on the errors
abbrev pub CompareExits : Form → Files → Files → Screen → Screen → Exit → Type 0
CompareExits form files files_after old new exit =
    (ended : Result Exit Fault) × (exit ≡ exit_of ended) × ComparesEach form files.rows files.feeds files_after.feeds ended old.output new.output
    × CommandCounts ended files.failed files_after.failed old.output_failed new.output_failed × Complains ended old new
