-- How a run of the program ends (own).
use Rattle.std.specs.Prelude.{◌≡◌, ◌⊎◌, ℕ, ◌+◌, List, ⊤, Option, None, Result, Ok, Err}
use Rattle.std.specs.Io.KnownBytes.{Appends}
use Rattle.s2_mode.specs.Pieces.{AppendsPart}
use Rattle.s2_mode.specs.Streams.{Streams, OnlyFailed}
use Rattle.s2_io.specs.declared.printed.Printed.{Printed}
use Rattle.s2_io.specs.declared.exit.Exit.{Exit}
use Rattle.s2_io.specs.declared.exit.Exit.TheVariants as exits
use Rattle.s2_io.specs.declared.fault.Fault.{Fault}
use Rattle.s2_io.specs.declared.fault.Fault.TheVariants as faults
use Rattle.s2_io.specs.Faults.{fault_line}
use Rattle.s2_io.specs.Screens.{Screen}

-- the result is the one that the input determines, unless memory ran out or a device failed
abbrev pub Follows : {V T : Type 0} → (V → T) → Result V Fault → Result T Fault → Type 0
Follows view (Ok v) planned = planned ≡ Ok (view v)
Follows view (Err faults.Read) planned = ⊤
Follows view (Err faults.Write) planned = ⊤
Follows view (Err faults.NoMemory) planned = ⊤
Follows view (Err f) planned = planned ≡ Err f

-- A command's text is the one that its input determines, or the input is refused. `IsInput` says which result the
-- command's files determine. If memory ran out or a device failed, nothing is claimed
abbrev pub CommandAnswers : {I : Type 0} → (I → Exit → List ℕ → Type 0) → (Result I Fault → Type 0) → Result Printed Fault → Type 0
CommandAnswers {I} Says IsInput (Ok printed) = (input : I) × IsInput (Ok input) × Says input printed.exit printed.text
CommandAnswers Says IsInput (Err faults.Read) = ⊤
CommandAnswers Says IsInput (Err faults.Write) = ⊤
CommandAnswers Says IsInput (Err faults.NoMemory) = ⊤
CommandAnswers Says IsInput (Err f) = IsInput (Err f)

-- the output after a text was printed with this exit: all of the text, or a first part if the writer failed
abbrev pub Prints : Exit → List ℕ → Result Exit Fault → Option (List ℕ) → Option (List ℕ) → Type 0
Prints exit text (Ok ended) old new = (ended ≡ exit) × Appends old new text
Prints exit text (Err faults.Write) old new = AppendsPart text old new
Prints exit text (Err f) old new = ⊥

-- A command that holds its output back, on an input. It printed its text, all of it, or a first part if a writer
-- failed. Or the input is refused, memory ran out or a reader failed, and nothing is printed
abbrev pub CommandRuns : {I : Type 0} → (I → Exit → List ℕ → Type 0) → (Result I Fault → Type 0) → Result Exit Fault → Option (List ℕ) → Option (List ℕ) → Type 0
CommandRuns {I} Says IsInput (Ok exit) old new = (input : I) × IsInput (Ok input) × ((text : List ℕ) × Says input exit text × Appends old new text)
CommandRuns {I} Says IsInput (Err faults.Write) old new = (new ≡ old) ⊎ ((input : I) × IsInput (Ok input) × ((exit : Exit) × ((text : List ℕ) × Says input exit text × AppendsPart text old new)))
CommandRuns Says IsInput (Err faults.Read) old new = new ≡ old
CommandRuns Says IsInput (Err faults.NoMemory) old new = new ≡ old
CommandRuns Says IsInput (Err f) old new = IsInput (Err f) × (new ≡ old)

-- how many reads have failed, and how many writes
abbrev pub counted : ℕ → ℕ → Streams
counted reads prints = record { taken = None; given = None; out = None; reads = reads; writes = 0; prints = prints }

-- only failed calls were counted; if a fault of reading is reported, a read failed
pub record CommandCounts (ended : Result Exit Fault) (reads reads_after prints prints_after : ℕ) : Type 0 where
  pub only : OnlyFailed (ended ≡ Err faults.Read) (ended ≡ Err faults.Write) (counted reads prints) (counted reads_after prints_after)
  pub read : ended ≡ Err faults.Read → reads_after ≡ reads + 1

-- the exit that a command returns; for a fault, exit 1
abbrev pub exit_of : Result Exit Fault → Exit
exit_of (Ok exit) = exit
exit_of (Err f) = exits.Fault

-- What a command wrote to its errors: the line of its fault, or nothing without a fault. The line may be lost only if
-- its writer failed
abbrev pub Complains : Result Exit Fault → Screen → Screen → Type 0
Complains (Ok exit) old new = (new.errors_failed ≡ old.errors_failed) × (new.errors ≡ old.errors)
Complains (Err f) old new = new.errors_failed ≡ old.errors_failed → Appends old.errors new.errors (fault_line f)

-- A command that prints its output at its end. It ran on an input, only failed calls were counted, and the line of a
-- fault is on the errors
abbrev pub CommandExits : {I : Type 0} → (I → Exit → List ℕ → Type 0) → (Result I Fault → Type 0) → ℕ → ℕ → Screen → Screen → Exit → Type 0
CommandExits Says IsInput reads reads_after old new exit =
    (ended : Result Exit Fault) × (exit ≡ exit_of ended) × CommandRuns Says IsInput ended old.output new.output
    × CommandCounts ended reads reads_after old.output_failed new.output_failed × Complains ended old new

-- the number that the program ends with: 0 fine, 1 a fault, 2 no
abbrev pub status_of : Exit → ℕ
status_of exits.Fine = 0
status_of exits.Fault = 1
status_of exits.No = 2
