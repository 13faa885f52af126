-- The symbols of a frame, from a copy of the recording (own).
use Rattle.std.specs.Prelude.{◌≡◌, ℕ, ◌+◌, ◌*◌, Bool, true, false, List, length, take, drop, Option, Some, None, Result, Ok, Err}
use Rattle.std.specs.Io.KnownBytes.{Consumes, IsAtEnd}
use Rattle.s2_mode.specs.Symbols.{symbols_of}
use Rattle.s2_mode.specs.declared.symbols.Symbol.{Symbol}
use Rattle.s2_stitch.specs.Sources.{IsCopyFrom}
use Rattle.s2_stitch.specs.declared.fault.SourceFault.{SourceFault}
use Rattle.s2_stitch.specs.declared.fault.SourceFault.TheVariants as faults

-- this number of symbols was read; or the copy is at its end
abbrev pub SkipsSymbols : ℕ → (old new : Option (List ℕ)) → Bool → Type 0
SkipsSymbols count old new true = (bytes : List ℕ) × (length bytes ≡ 4 * count) × Consumes old new bytes
SkipsSymbols count old new false = (bytes : List ℕ) × Consumes old new bytes × IsAtEnd new

-- these symbols were read; or the copy is at its end
abbrev pub ReadsSymbols : ℕ → (old new : Option (List ℕ)) → Option (List Symbol) → Type 0
ReadsSymbols count old new (Some symbols) = (bytes : List ℕ) × (length bytes ≡ 4 * count) × (symbols ≡ symbols_of bytes) × Consumes old new bytes
ReadsSymbols count old new None = (bytes : List ℕ) × Consumes old new bytes × IsAtEnd new

-- the copy of any recording is read on, up to the end of the frame at this position, whose symbols these are; or to its end
abbrev pub CopiesFrame : (size at place place_new : ℕ) → (old new : Option (List ℕ)) → Option (List Symbol) → Type 0
CopiesFrame size at place place_new old new (Some symbols) =
    (recording : List Symbol) → IsCopyFrom recording place old → IsCopyFrom recording place_new new × (symbols ≡ take size (drop at recording))
CopiesFrame size at place place_new old new None = ((recording : List Symbol) → IsCopyFrom recording place old → IsCopyFrom recording place_new new) × IsAtEnd new

-- the copy is read on up to this position, or to its end
abbrev pub CopiesTo : (at place place_new : ℕ) → (old new : Option (List ℕ)) → Bool → Type 0
CopiesTo at place place_new old new true = ((recording : List Symbol) → IsCopyFrom recording place old → IsCopyFrom recording place_new new) × (place_new ≡ at)
CopiesTo at place place_new old new false = ((recording : List Symbol) → IsCopyFrom recording place old → IsCopyFrom recording place_new new) × IsAtEnd new

-- only a failed read of the copy is counted
abbrev pub CountsCopy : {A : Type 0} → (old new : ℕ) → Result A SourceFault → Type 0
CountsCopy old new (Ok value) = new ≡ old
CountsCopy old new (Err (faults.Records fault)) = ⊥
CountsCopy old new (Err faults.Recording) = new ≡ old + 1
CountsCopy old new (Err faults.OtherRecording) = new ≡ old
CountsCopy old new (Err faults.NoMemory) = new ≡ old
