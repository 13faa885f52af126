-- Noise (this project's own): what a symbol gains, as a function of the noise's strength and the generator's state.
use Rattle.std.specs.Prelude.{◌≡◌, List, [], ◌∷◌, ◌++◌, Option, ℕ, zero, suc, ℤ, pos, negsuc, ◌≤◌, ◌*◌, ◌+ℤ◌, ◌-ℤ◌, ◌*ℤ◌, int_div, length}
use Rattle.std.specs.Int.{w32, int_min, int_max, to_le_bytes}
use Rattle.std.specs.Io.KnownBytes.{Appends, Consumes}
use Rattle.rand_pcg.specs.Lcg.{Lcg}
use Rattle.rand_pcg.specs.Pcg.{pcg32}
use Rattle.s2_mode.specs.Limits.{max_symbols}
use Rattle.s2_mode.specs.Pieces.{AppendsPart}
use Rattle.s2_mode.specs.Symbols.{symbol_bytes, symbols_of}
use Rattle.s2_mode.specs.declared.symbols.Symbol.{Symbol}
use Rattle.s2_channel.specs.Gaussian.{amplitude_at, gaussian_gain}
use Rattle.s2_channel.specs.Table.{entry, total}
use Rattle.s2_channel.specs.declared.strength.Strength.{Strength}
use Rattle.s2_channel.specs.declared.strength.Strength.TheVariants as by

-- what a byte adds to the sum that moves a component: itself by a level, its entry of the table by Es/N0
abbrev pub weight : Strength → ℕ → ℤ
weight (by.Level noise_level) byte = pos byte
weight (by.EsN0 esn0) byte = entry byte

-- the sum of the weights of the four bytes of a word of 32 bits
abbrev pub word_sum : Strength → ℕ → ℤ
word_sum strength value = total (weight strength) (to_le_bytes w32 value)

-- the sum that the noise of a component is made of, by the eight bytes of the next two words, and the generator after them
unfoldable pub draw : Strength → Lcg → ℤ × Lcg
draw strength g = (word_sum strength (pcg32 g).0 +ℤ word_sum strength (pcg32 (pcg32 g).1).0, (pcg32 (pcg32 g).1).1)

-- what a component gains by a sum of eight bytes: less its mean, times the level over 256, toward zero
unfoldable pub level_gain : ℕ → ℤ → ℤ
level_gain noise_level drawn = int_div ((drawn -ℤ pos 1020) *ℤ pos noise_level) (pos 256)

-- what a component gains by the sum that was drawn
abbrev pub gain : Strength → ℤ → ℤ
gain (by.Level noise_level) drawn = level_gain noise_level drawn
gain (by.EsN0 esn0) drawn = gaussian_gain (amplitude_at esn0) drawn

-- a component with its gain, or the nearest number of 16 bits
unfoldable pub moved : Strength → ℤ → ℤ → ℤ
moved strength component drawn = int_max (negsuc 32767) (int_min (component +ℤ gain strength drawn) (pos 32767))

-- a symbol with the noise drawn next, first for I, then for Q, and the generator after it
unfoldable pub add : Strength → Lcg → Symbol → Symbol × Lcg
add strength g s = (
  record { i = moved strength s.i (draw strength g).0; q = moved strength s.q (draw strength (draw strength g).1).0 },
  (draw strength (draw strength g).1).1,
)

-- the generator after the words of n symbols, two sums for each
abbrev pub drawn_for : Strength → ℕ → Lcg → Lcg
drawn_for strength zero g = g
drawn_for strength (suc n) g = (draw strength (draw strength (drawn_for strength n g)).1).1

-- the bytes of these symbols, each with the noise drawn for it
abbrev pub noisy : Strength → Lcg → List Symbol → List ℕ
noisy strength g [] = []
noisy strength g (s ∷ ss) = symbol_bytes (add strength g s).0 ++ noisy strength (add strength g s).1 ss

-- What a failed read leaves: the reader gave some bytes, and the writer gained exactly the noisy symbols that these
-- spell. If no read failed, they were the most symbols that one call takes
pub record PassesOn (strength : Strength) (g : Lcg) (taken left given gained : Option (List ℕ)) (reads reads_now : ℕ) : Type 0 where
  pub bytes : List ℕ
  pub read : Consumes taken left bytes
  pub written : Appends given gained (noisy strength g (symbols_of bytes))
  pub bound : reads_now ≡ reads → length (symbols_of bytes) ≡ max_symbols

-- the same of a reader and a writer, before and after, by the reader's bytes and count and the writer's bytes
abbrev pub PassesOnBy : {R W : Type 0} → (R → Option (List ℕ)) → (R → ℕ) → (W → Option (List ℕ)) → Strength → Lcg → R → R → W → W → Type 0
PassesOnBy taken reads given strength g r r' w w' = PassesOn strength g (taken r) (taken r') (given w) (given w') (reads r) (reads r')

-- the most bytes that are read before their symbols are written
abbrev pub block_bytes : ℕ
block_bytes = 4096

-- What a failed write leaves: the reader gave the bytes of some whole symbols, and then at most a block. The writer gained
-- the former with their noise, and then a part of the symbols of the latter with theirs, and not all
pub record PassesPart (strength : Strength) (g : Lcg) (taken left given gained : Option (List ℕ)) : Type 0 where
  pub bytes : List ℕ
  pub last : List ℕ
  pub between : Option (List ℕ)
  pub read : Consumes taken left (bytes ++ last)
  pub whole : length bytes ≡ 4 * length (symbols_of bytes)
  pub block : length last ≤ block_bytes
  pub written : Appends given between (noisy strength g (symbols_of bytes))
  pub part : AppendsPart (noisy strength (drawn_for strength (length (symbols_of bytes)) g) (symbols_of last)) between gained
