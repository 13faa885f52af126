-- A recording that is scanned, and what the command does with it (own).
use Rattle.std.specs.Prelude.{◌≡◌, ℕ, ⊤, ◌+◌, ◌*◌, nat_lt, List, length, Option, IfSome, Result, Ok, Err, if◌then◌else◌}
use Rattle.s2_mode.specs.Limits.{max_symbols}
use Rattle.s2_io.specs.declared.exit.Exit.{Exit}
use Rattle.s2_io.specs.declared.fault.Fault.{Fault}
use Rattle.s2_io.specs.declared.fault.Fault.TheVariants as faults
use Rattle.s2_scan.specs.Passing.{all_passes}
use Rattle.s2_scan.specs.Pilots.{IsNumber, front_of}
use Rattle.s2_scan.specs.Candidates.{candidates_of}
use Rattle.s2_scan.specs.Lines.{scan_text, scan_exit}
use Rattle.s2_scan.specs.declared.passes.Pass.{Pass}
use Rattle.s2_scan.specs.declared.candidate.Candidate.{Candidate}

-- the limit of a recording's bytes: 2^40 positions
abbrev pub max_bytes : ℕ
max_bytes = 4 * (max_symbols + 89)

-- a recording, unless it is too long
abbrev pub recorded : List ℕ → Result (List ℕ) Fault
recorded bytes = if nat_lt (length bytes) max_bytes then Ok bytes else Err faults.TooLong

-- the result is this recording, if its bytes are known
abbrev pub IsRecording : Option (List ℕ) → Result (List ℕ) Fault → Type 0
IsRecording known said = IfSome known (λ bytes. recorded bytes ≡ said)

-- these are the passes and the first bytes of the recording
abbrev pub AreSeen : Option (List ℕ) → List Pass → List ℕ → Type 0
AreSeen known passes front = (bytes : List ℕ) × IsRecording known (Ok bytes) × (passes ≡ all_passes bytes) × (front ≡ front_of bytes)

-- these are the headers that are seen in the recording, the likeliest first
abbrev pub AreHeadersOf : Option (List ℕ) → List Candidate → Type 0
AreHeadersOf known found = (bytes : List ℕ) × IsRecording known (Ok bytes) × (found ≡ candidates_of (all_passes bytes))

-- a read failed, or memory was refused
abbrev pub IsOutside : Fault → Type 0
IsOutside faults.Read = ⊤
IsOutside faults.NoMemory = ⊤
IsOutside f = ⊥

-- why a recording was not scanned: a read failed, memory was refused, or it is too long
abbrev pub MayFail : Option (List ℕ) → Fault → Type 0
MayFail known faults.TooLong = IsRecording known (Err faults.TooLong)
MayFail known f = IsOutside f

-- `scan` prints this of the passes and the first bytes of a recording in the file of this name
pub record SaysSeen (name : List ℕ) (passes : List Pass) (front : List ℕ) (exit : Exit) (text : List ℕ) : Type 0 where
  pub number : Option ℕ
  pub found : IsNumber front passes (candidates_of passes) number
  pub line : text ≡ scan_text name front number (candidates_of passes)
  pub ends : exit ≡ scan_exit (candidates_of passes)

-- `scan` prints this of a recording in the file of this name
abbrev pub SaysScan : List ℕ → List ℕ → Exit → List ℕ → Type 0
SaysScan name bytes = SaysSeen name (all_passes bytes) (front_of bytes)

-- `scan` prints this of the recording
abbrev pub IsScanned : List ℕ → Option (List ℕ) → Exit → List ℕ → Type 0
IsScanned name known exit text = (bytes : List ℕ) × IsRecording known (Ok bytes) × SaysScan name bytes exit text
