-- What level 0 does, and that the table and the amplitudes are right (own).
use Rattle.std.specs.Prelude.{◌≡◌, ◌<◌, ◌≤◌, IsTrue, ◌*◌, ◌/◌, ◌^◌, ℕ, pos, List, All, length, take, FitsSigned}
use Rattle.std.specs.Int.{w16}
use Rattle.rand_pcg.specs.Lcg.{Lcg}
use Rattle.s2_mode.specs.Symbols.{symbols_of}
use Rattle.s2_mode.specs.declared.symbols.Symbol.{Symbol}
use Rattle.s2_channel.specs.Gaussian.{amplitude_at, has_variance}
use Rattle.s2_channel.specs.Table.{entry, total, all_bytes, sum_of_squares, power_sum, is_about}
use Rattle.s2_channel.specs.Noise.{draw, add, noisy}
use Rattle.s2_channel.specs.declared.strength.Strength.{Strength}
use Rattle.s2_channel.specs.declared.strength.Strength.TheVariants as by

-- no noise: level 0
abbrev pub silence : Strength
silence = by.Level 0

-- at level 0 a symbol stays as it is, and the generator moves on by two draws as at any other level
abbrev pub SilentLaw : Type 0
SilentLaw = (g : Lcg) (s : Symbol) → FitsSigned w16 s.i → FitsSigned w16 s.q → add silence g s ≡ (s, (draw silence (draw silence g).1).1)

-- at level 0 the noisy symbols of some bytes are these bytes, without up to three bytes at the end
abbrev pub SilentStreamLaw : Type 0
SilentStreamLaw = (g : Lcg) (bytes : List ℕ) → All (λ b. b < 256) bytes → noisy silence g (symbols_of bytes) ≡ take (length bytes / 4 * 4) bytes

-- at each tenth of a dB from -10 dB to 40 dB, the amplitude gives noise of the variance N0/2, before it is rounded
abbrev pub VarianceLaw : Type 0
VarianceLaw = (tenths : ℕ) → tenths ≤ 500 → IsTrue (has_variance tenths (amplitude_at (10 * tenths)))

-- The entries of all bytes have the sum 0, and this sum of squares. With their variance as the unit, their fourth and sixth moments are those
-- of a normal distribution, 3 and 15, to 0.001. A sum of independent entries then has them even more nearly
pub record TableLaw : Type 0 where
  pub mean : total entry all_bytes ≡ pos 0
  pub squares : power_sum 2 ≡ sum_of_squares
  pub fourth : IsTrue (is_about 3 (sum_of_squares ^ 2) (256 * power_sum 4))
  pub sixth : IsTrue (is_about 15 (sum_of_squares ^ 3) (256 ^ 2 * power_sum 6))
