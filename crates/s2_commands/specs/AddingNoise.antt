-- What `noise` writes (own).
use Rattle.std.specs.Prelude.{◌≡◌, ℕ, Bool, List, Option, IfSome, Result, Ok, Err}
use Rattle.std.specs.Io.KnownBytes.{Appends}
use Rattle.s2_mode.specs.Streams.{Streams}
use Rattle.s2_mode.specs.Symbols.{symbols_of}
use Rattle.s2_channel.specs.Noise.{noisy, PassesOn, PassesPart}
use Rattle.s2_channel.specs.Pcg.{pcg32_of_seed}
use Rattle.s2_channel.specs.Pcg32Seed.{pcg32_seed}
use Rattle.s2_io.specs.declared.exit.Exit.{Exit}
use Rattle.s2_io.specs.declared.exit.Exit.TheVariants as exits
use Rattle.s2_io.specs.declared.fault.Fault.{Fault}
use Rattle.s2_io.specs.declared.fault.Fault.TheVariants as faults
use Rattle.s2_io.specs.Exits.{exit_of, Complains}
use Rattle.s2_io.specs.Files.{piped}
use Rattle.s2_io.specs.Screens.{Screen}
use Rattle.s2_commands.specs.declared.choices.Channel.{Channel}
use Rattle.s2_commands.specs.Links.{Begins, Causes}

-- All symbols that were read, each with its noise. After a failed read, or at the limit, those that came before. After
-- a failed write those before the block that was read last, and a part of this one's
abbrev pub IsNoisy : Channel → Streams → Streams → Result Exit Fault → Type 0
IsNoisy channel old new (Ok exit) =
    (exit ≡ exits.Fine)
    × IfSome old.taken (λ xs. Appends old.given new.given (noisy channel.strength (pcg32_of_seed (pcg32_seed 16 channel.seed)) (symbols_of xs)))
IsNoisy channel old new (Err faults.Read) =
    PassesOn channel.strength (pcg32_of_seed (pcg32_seed 16 channel.seed)) old.taken new.taken old.given new.given old.reads new.reads
IsNoisy channel old new (Err faults.Write) =
    PassesPart channel.strength (pcg32_of_seed (pcg32_seed 16 channel.seed)) old.taken new.taken old.given new.given
IsNoisy channel old new (Err f) = ⊥

-- the streams of a reader and a writer, beside no report
abbrev pub piped_by : {R W : Type 0} → (R → Option (List ℕ)) → (R → ℕ) → (W → Option (List ℕ)) → (W → ℕ) → R → W → Streams
piped_by taken reads given writes r w = piped (taken r) (reads r) (given w) (writes w)

-- `noise` by a channel's seed and strength
pub record AddsNoise (channel : Channel) (old new : Streams) (ended : Result Exit Fault) : Type 0 where
  pub added : IsNoisy channel old new ended
  pub causes : Causes old new ended

-- `noise` has ended with this exit. It began its output and added the noise, or it could not begin. The line of a fault
-- is on the errors
abbrev pub NoiseExits : Channel → (begun : Bool) → Streams → Streams → Screen → Screen → Exit → Type 0
NoiseExits channel begun old new console_old console_new exit =
    (ended : Result Exit Fault) × (exit ≡ exit_of ended) × Begins (AddsNoise channel) begun old new ended × Complains ended console_old console_new
