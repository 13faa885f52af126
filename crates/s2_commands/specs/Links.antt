-- The link that a command works on (own).
use Rattle.std.specs.Prelude.{◌≡◌, ◌≢◌, ◌⊎◌, ℕ, ◌+◌, Bool, true, false, List, Option, IfSome, Result, Ok, Err}
use Rattle.s2_mode.specs.Mode.{Mode, shape_in}
use Rattle.s2_mode.specs.Streams.{Streams, OnlyFailed}
use Rattle.s2_rows.specs.Rows.{Rows}
use Rattle.s2_link.specs.Link.{Link, link_of}
use Rattle.s2_link.specs.declared.setup.Setup.{Setup}
use Rattle.s2_io.specs.declared.fault.Fault.{Fault}
use Rattle.s2_io.specs.declared.fault.Fault.TheVariants as faults
use Rattle.s2_io.specs.Exits.{Follows}
use Rattle.s2_io.specs.Files.{Files}
use Rattle.s2_inputs.specs.Inputs.{rows_in}
use Rattle.s2_table.specs.Tables.{NotesRows}

-- the link on these rows, or why there are none
abbrev pub link_on : Setup → Result Rows Fault → Result Link Fault
link_on setup (Err f) = Err f
link_on setup (Ok rows) = Ok (link_of setup rows)

-- the link on the rows of a row file, which is read by the mode's shape
abbrev pub link_in : Setup → List ℕ → Result Link Fault
link_in setup text = link_on setup (rows_in (shape_in setup.mode) text)

-- What a command does on a link: whether it begins its output, what it makes of its ends, and how it ends. Its ends are
-- its streams, with its sinks if it has any
abbrev pub LinkCommand : (E T : Type 0) → Type 1
LinkCommand E T = Link → (begun : Bool) → (old new : E) → Result T Fault → Type 0

-- it does nothing but to report this fault
abbrev pub OnlyFails : {E T : Type 0} → Fault → (begun : Bool) → (old new : E) → Result T Fault → Type 0
OnlyFails f begun old new ended = (begun ≡ false) × (ended ≡ Err f) × (new ≡ old)

-- its output cannot be truncated, and nothing is written
abbrev pub CannotBegin : {T : Type 0} → Streams → Streams → Result T Fault → Type 0
CannotBegin old new ended = (ended ≡ Err faults.Write) × (new ≡ record old { writes = old.writes + 1 })

-- it begins its output before it does this
abbrev pub Begins : {T : Type 0} → (Streams → Streams → Result T Fault → Type 0) → (begun : Bool) → Streams → Streams → Result T Fault → Type 0
Begins Does begun old new ended = (begun ≡ true) × (Does old new ended ⊎ CannotBegin old new ended)

-- Without a link it only reports why there is none. On a link it does its work, unless memory runs out
abbrev pub DoesOn : {E T : Type 0} → LinkCommand E T → Result Link Fault → (begun : Bool) → (old new : E) → Result T Fault → Type 0
DoesOn Does (Ok link) begun old new ended = Does link begun old new ended ⊎ OnlyFails faults.NoMemory begun old new ended
DoesOn Does (Err f) begun old new ended = (f ≢ faults.Write) × OnlyFails f begun old new ended

-- which failure it reports: only failed calls are counted, of its input and of its two outputs
abbrev pub Causes : {T : Type 0} → Streams → Streams → Result T Fault → Type 0
Causes old new ended = OnlyFailed (ended ≡ Err faults.Read) (ended ≡ Err faults.Write) old new

-- the note on rows, on a writer known by its contents and its count of failed calls
abbrev pub noted_by : {E : Type 0} → (E → Option (List ℕ)) → (E → ℕ) → (old new : E) → (quiet : Bool) → Mode → Result Rows Fault → Type 0
noted_by contents count old new quiet m rows = NotesRows quiet m (count old) (count new) (contents old) (contents new) rows

-- A command on a setup and on these files. The row file determines whether there is a link, unless memory runs out or a
-- read of it fails, which is counted. It also determines the note on the rows. Only these failed calls are counted
pub record OnLink {E T : Type 0} (Does : LinkCommand E T) (Counted : (old new : E) → Result T Fault → Type 0) (Noted : Result Rows Fault → Type 0) (setup : Setup) (files left : Files) (old new : E) (ended : Result T Fault) : Type 0 where
  pub rows : Result Rows Fault
  pub read : IfSome files.rows (λ text. Follows (λ r. r) rows (rows_in (shape_in setup.mode) text))
  pub noted : Noted rows
  pub rows_failed : rows ≡ Err faults.Read → left.rows_failed ≡ files.rows_failed + 1
  pub rows_whole : rows ≢ Err faults.Read → left.rows_failed ≡ files.rows_failed
  pub does : DoesOn Does (link_on setup rows) left.begun old new ended
  pub causes : Counted old new ended
