-- What `join` reads, writes and reports (own).
use Rattle.std.specs.Prelude.{◌≡◌, ◌≢◌, ◌⊎◌, ℕ, ◌+◌, ◌*◌, ◌<◌, Bool, true, false, List, ◌++◌, length, Option, IfSome, Result, Ok, Err}
use Rattle.std.specs.Io.KnownBytes.{Consumes, Appends, IsAtEnd}
use Rattle.s2_mode.specs.Mode.{Mode}
use Rattle.s2_mode.specs.Pieces.{AppendsPart}
use Rattle.s2_mode.specs.Streams.{Streams, OnlyFailed}
use Rattle.s2_mode.specs.declared.stream_fault.StreamFault.{StreamFault}
use Rattle.s2_mode.specs.declared.stream_fault.StreamFault.TheVariants as stream_faults
use Rattle.s2_io.specs.declared.exit.Exit.{Exit}
use Rattle.s2_io.specs.declared.fault.Fault.{Fault}
use Rattle.s2_io.specs.declared.fault.Fault.TheVariants as faults
use Rattle.s2_io.specs.Exits.{Prints, exit_of, Complains}
use Rattle.s2_io.specs.Files.{piped}
use Rattle.s2_io.specs.Screens.{Screen}
use Rattle.s2_records.specs.Limits.{max_frames}
use Rattle.s2_records.specs.Frames.{frame_bytes, frames_in, packets_in}
use Rattle.s2_records.specs.Counting.{summary_of, report_of, exit_by}
use Rattle.s2_records.specs.declared.join_counts.Summary.{Summary}

-- The file was read to its end: these bytes were all. Exactly their packets are written, and this is their summary
pub record JoinsAll (m : Mode) (old new : Streams) (summary : Summary) : Type 0 where
  pub bytes : List ℕ
  pub read : Consumes old.taken new.taken bytes
  pub all : IsAtEnd new.taken
  pub few : length (frames_in m bytes) < max_frames
  pub written : Appends old.given new.given (packets_in m bytes)
  pub summary_is : summary ≡ summary_of m bytes
  pub no_write : new.writes ≡ old.writes

-- A read failed after these bytes. Exactly the packets of the whole frames in them are written. If no read failed, they
-- are all frames that one join can take
pub record StopsReading (m : Mode) (old new : Streams) : Type 0 where
  pub bytes : List ℕ
  pub read : Consumes old.taken new.taken bytes
  pub written : Appends old.given new.given (packets_in m bytes)
  pub cause : new.reads ≢ old.reads + 1 → (new.reads ≡ old.reads) × (length bytes ≡ frame_bytes m * max_frames)
  pub no_write : new.writes ≡ old.writes

-- A write failed after the last of these whole frames was read. The packets of those before it are written, and a part
-- of the packets that it adds, and not all
pub record StopsWriting (m : Mode) (old new : Streams) : Type 0 where
  pub bytes : List ℕ
  pub last : List ℕ
  pub added : List ℕ
  pub between : Option (List ℕ)
  pub read : Consumes old.taken new.taken (bytes ++ last)
  pub whole : length bytes ≡ frame_bytes m * length (frames_in m bytes)
  pub one : length last ≡ frame_bytes m
  pub adds : packets_in m (bytes ++ last) ≡ packets_in m bytes ++ added
  pub written : Appends old.given between (packets_in m bytes)
  pub part : AppendsPart added between new.given
  pub failed : new.writes ≡ old.writes + 1

-- the packets of a reader's frames, by the result
abbrev pub JoinsBy : Mode → Streams → Streams → Result Summary StreamFault → Type 0
JoinsBy m old new (Ok summary) = JoinsAll m old new summary
JoinsBy m old new (Err stream_faults.Read) = StopsReading m old new
JoinsBy m old new (Err stream_faults.Write) = StopsWriting m old new

-- it stopped before the end of the file, for this fault
abbrev pub Stops : Mode → Streams → Streams → Result Exit Fault → Type 0
Stops m old new (Err faults.Read) = StopsReading m old new
Stops m old new (Err faults.Write) = StopsWriting m old new
Stops m old new ended = ⊥

-- the packets of all frames are written, and the report is printed, or a part of it if that failed
abbrev pub Reports : Mode → Streams → Streams → Result Exit Fault → Type 0
Reports m old new ended = (summary : Summary) × JoinsAll m old new summary × Prints (exit_by summary) (report_of m summary) ended old.out new.out

-- it does so, or it stopped before, and nothing is printed
abbrev pub Joins : Mode → Streams → Streams → Result Exit Fault → Type 0
Joins m old new ended = Reports m old new ended ⊎ (Stops m old new ended × (new.out ≡ old.out))

-- its output cannot be truncated, and nothing is read or written
abbrev pub CannotBegin : Streams → Streams → Result Exit Fault → Type 0
CannotBegin old new ended = (ended ≡ Err faults.Write) × (new ≡ record old { writes = old.writes + 1 })

-- the output is truncated, and then the frames are joined
abbrev pub Begins : Mode → (begun : Bool) → Streams → Streams → Result Exit Fault → Type 0
Begins m begun old new ended = (begun ≡ true) × (Joins m old new ended ⊎ CannotBegin old new ended)

-- or there was no memory, and nothing was done: the output is not truncated
abbrev pub Runs : Mode → (begun : Bool) → Streams → Streams → Result Exit Fault → Type 0
Runs m begun old new ended = Begins m begun old new ended ⊎ ((begun ≡ false) × (ended ≡ Err faults.NoMemory) × (new ≡ old))

-- only failed calls were counted, and their fault is reported
abbrev pub Causes : Streams → Streams → Result Exit Fault → Type 0
Causes old new ended = OnlyFailed (ended ≡ Err faults.Read) (ended ≡ Err faults.Write) old new

-- the streams of a reader and a writer, beside no output
abbrev pub piped_by : {R W : Type 0} → (R → Option (List ℕ)) → (R → ℕ) → (W → Option (List ℕ)) → (W → ℕ) → R → W → Streams
piped_by taken reads given writes r w = piped (taken r) (reads r) (given w) (writes w)

-- the same, beside a command's output
abbrev pub beside : Streams → Screen → Streams
beside streams screen = record streams { out = screen.output; prints = screen.output_failed }

-- of a file whose bytes are known, exactly the packets are written, and the report is printed; this is the exit
abbrev pub JoinsKnown : Mode → Streams → Streams → Screen → Screen → Exit → Type 0
JoinsKnown m old new screen_old screen_new exit =
    IfSome old.taken (λ bytes. (exit ≡ exit_by (summary_of m bytes)) × Appends old.given new.given (packets_in m bytes)
    × Appends screen_old.output screen_new.output (report_of m (summary_of m bytes)))

-- `join` has ended with this exit: so it ran on its files and its output, and the line of a fault is on the errors
abbrev pub JoinExits : Mode → (begun : Bool) → Streams → Streams → Screen → Screen → Exit → Type 0
JoinExits m begun old new screen_old screen_new exit =
    (ended : Result Exit Fault) × (exit ≡ exit_of ended) × Runs m begun (beside old screen_old) (beside new screen_new) ended
    × Causes (beside old screen_old) (beside new screen_new) ended × Complains ended screen_old screen_new
