-- The ends of a command that receives: its streams and its sinks (own).
use Rattle.std.specs.Prelude.{◌≡◌, ◌⊎◌, ℕ, Bool, true, Result, Err}
use Rattle.s2_mode.specs.Streams.{Streams}
use Rattle.s2_receive.specs.Sinks.{OnlyFailedWith}
use Rattle.s2_io.specs.declared.fault.Fault.{Fault}
use Rattle.s2_io.specs.declared.fault.Fault.TheVariants as faults
use Rattle.s2_commands.specs.Links.{CannotBegin}

-- the streams of a command, and its sinks, which take each frame
pub record Ends (K : Type 0) : Type 0 where
  pub streams : Streams
  pub sinks : K

-- the ends with these streams and sinks
abbrev pub ends_of : {K : Type 0} → Streams → K → Ends K
ends_of streams sinks = record { streams = streams; sinks = sinks }

-- Which failure it reports: only failed calls are counted, of its input, of its two outputs and of its sinks. `count`
-- says how many calls of the sinks have failed
abbrev pub CausesWith : {K T : Type 0} → (count : K → ℕ) → (old new : Ends K) → Result T Fault → Type 0
CausesWith count old new ended = OnlyFailedWith (ended ≡ Err faults.Read) (ended ≡ Err faults.Write) (count old.sinks) (count new.sinks) old.streams new.streams

-- it begins its output before it does this; if the output cannot be truncated, its sinks are unchanged
abbrev pub BeginsWith : {K T : Type 0} → ((old new : Ends K) → Result T Fault → Type 0) → (begun : Bool) → (old new : Ends K) → Result T Fault → Type 0
BeginsWith Does begun old new ended = (begun ≡ true) × (Does old new ended ⊎ (CannotBegin old.streams new.streams ended × (new.sinks ≡ old.sinks)))
