-- The files of a command (own).
use Rattle.std.specs.Prelude.{◌≡◌, ℕ, Bool, false, List, Option, None}
use Rattle.s2_mode.specs.Counts.{CanCount}
use Rattle.s2_mode.specs.Streams.{Streams}
use Rattle.s2_io.specs.Screens.{Screen}

-- The files of a command: the unread bytes of its row file and how many calls of it have failed; whether the output was
-- begun; and the streams of the others
pub record Files : Type 0 where
  pub rows : Option (List ℕ)
  pub rows_failed : ℕ
  pub begun : Bool
  pub streams : Streams

-- a file that is read and one that is written, beside no output
abbrev pub piped : Option (List ℕ) → ℕ → Option (List ℕ) → ℕ → Streams
piped taken reads given writes =
    record { taken = taken; given = given; out = None; reads = reads; writes = writes; prints = 0 }

-- the streams of a command's files, with the output that its report is printed on
abbrev pub reporting : Files → Screen → Streams
reporting files screen = record files.streams { out = screen.output; prints = screen.output_failed }

-- nothing is begun so far, and one more failed call of each file can be counted
abbrev pub CanStart : Files → Type 0
CanStart files =
    (files.begun ≡ false) × CanCount files.rows_failed × CanCount files.streams.reads × CanCount files.streams.writes
