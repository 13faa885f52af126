-- What becomes of sent symbols that are in memory: noise is added, and the result is received (own).
use Rattle.std.specs.Prelude.{◌≡◌, ◌⊎◌, ℕ, Bool, false, List, [], Option, Some, None, Result, Ok, Err}
use Rattle.s2_mode.specs.Streams.{Streams}
use Rattle.s2_receive.specs.Receiving.{Rules}
use Rattle.s2_receive.specs.Sinks.{Taking}
use Rattle.s2_receive.specs.declared.report.Received.{Received}
use Rattle.s2_io.specs.declared.exit.Exit.{Exit}
use Rattle.s2_io.specs.declared.fault.Fault.{Fault}
use Rattle.s2_io.specs.declared.fault.Fault.TheVariants as faults
use Rattle.s2_io.specs.Files.{piped}
use Rattle.s2_commands.specs.declared.choices.Channel.{Channel}
use Rattle.s2_commands.specs.Ends.{BeginsWith, Ends, ends_of}
use Rattle.s2_commands.specs.AddingNoise.{AddsNoise}
use Rattle.s2_commands.specs.Receptions.{ReceivesToEnd}

-- a fault of a part whose output is kept in memory: a write fails only if there is none
abbrev pub kept_fault : Fault → Fault
kept_fault faults.Write = faults.NoMemory
kept_fault f = f

-- a part that failed ends all: nothing more is written or printed, and the sinks are unchanged
abbrev pub Stops : {K : Type 0} → Fault → (old new : Ends K) → Result Received Fault → Type 0
Stops f old new ended = (ended ≡ Err f) × (new.streams.given ≡ old.streams.given) × (new.streams.out ≡ old.streams.out) × (new.sinks ≡ old.sinks)

-- it does so before the output is begun
abbrev pub EndsAll : {K : Type 0} → Fault → (begun : Bool) → (old new : Ends K) → Result Received Fault → Type 0
EndsAll f begun old new ended = (begun ≡ false) × Stops f old new ended

-- the same ends, if these bytes are received, from memory
abbrev pub hearing : {K : Type 0} → Option (List ℕ) → Ends K → Ends K
hearing taken ends = ends_of (record ends.streams { taken = taken; reads = 0 }) ends.sinks

-- the streams of two writers, without a reader
abbrev pub written_by : {P W : Type 0} → (P → Option (List ℕ)) → (P → ℕ) → (W → Option (List ℕ)) → (W → ℕ) → P → W → Streams
written_by given writes out prints p w = record { taken = None; given = given p; out = out w; reads = 0; writes = writes p; prints = prints w }

-- noise is added to symbols in memory, and this becomes of the result
abbrev pub Noised : Channel → List ℕ → (Becomes : List ℕ → Result Exit Fault → Type 0) → Type 0
Noised channel symbols Becomes =
    (added : Result Exit Fault) × (left noisy : List ℕ) × (failed : ℕ)
    × AddsNoise channel (piped (Some symbols) 0 (Some []) 0) (piped (Some left) 0 (Some noisy) failed) added × Becomes noisy added

-- the symbols with noise are received, and the output was begun before
abbrev pub ReceivesNoisy : {K : Type 0} → (takes fails : Taking K) → Rules → List ℕ → Result Exit Fault → (begun : Bool) → (old new : Ends K) → Result Received Fault → Type 0
ReceivesNoisy takes fails rules noisy (Ok exit) begun old new ended =
    (left : Option (List ℕ)) × BeginsWith (ReceivesToEnd takes fails rules) begun (hearing (Some noisy) old) (hearing left new) ended
ReceivesNoisy takes fails rules noisy (Err f) begun old new ended = EndsAll (kept_fault f) begun old new ended

-- noise is added to symbols in memory, and the result is received by a new receiver; or there is no memory for it
abbrev pub ReceivesWithNoise : {K : Type 0} → (takes fails : Taking K) → Rules → Channel → List ℕ → (begun : Bool) → (old new : Ends K) → Result Received Fault → Type 0
ReceivesWithNoise takes fails rules channel symbols begun old new ended =
    Noised channel symbols (λ noisy added. ReceivesNoisy takes fails rules noisy added begun old new ended) ⊎ EndsAll faults.NoMemory begun old new ended
