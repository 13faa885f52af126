-- The bounds of the equalizer's numbers (own). The code's numbers of 64 and 32 bits hold all of them.
use Rattle.std.specs.Prelude.{◌≡◌, ℕ, ◌<◌, ◌≤◌, ◌^◌, unsigned_abs, List, length}
use Rattle.s2_mode.specs.declared.symbols.Symbol.{Symbol}
use Rattle.s2_mode.specs.Symbols.{symbol_at}
use Rattle.s2_equalize.specs.declared.complex.Complex.{Complex}
use Rattle.s2_equalize.specs.Complex.{IsWithin, complex_at}
use Rattle.s2_equalize.specs.Gains.{turns}

-- the components of a symbol are those of a known symbol, or smaller
pub record IsSmall (s : Symbol) : Type 0 where
  pub i : unsigned_abs s.i ≤ 700
  pub q : unsigned_abs s.q ≤ 700

-- so are those of each symbol
abbrev pub AreSmall : List Symbol → Type 0
AreSmall symbols = (i : ℕ) → i < length symbols → IsSmall (symbol_at symbols i)

-- each number of a list is within a bound
abbrev pub AreWithin : ℕ → List Complex → Type 0
AreWithin most numbers = (k : ℕ) → k < length numbers → IsWithin most (complex_at numbers k)

-- the correlation of a symbol
abbrev pub correlation_bound : ℕ
correlation_bound = 45875200

-- the gain of a block
abbrev pub gain_bound : ℕ
gain_bound = 47936

-- a gain times the conjugate of another, and the sum of these over all blocks
abbrev pub turn_bound : ℕ
turn_bound = 4600000000

abbrev pub turn_sum_bound : ℕ
turn_sum_bound = 2 ^ 30

-- the gain of a block, rotated to another
abbrev pub turned_bound : ℕ
turned_bound = 2 ^ 36

-- smoothed gains
abbrev pub mean_bound : ℕ
mean_bound = 2 ^ 21

abbrev pub smoothed_bound : ℕ
smoothed_bound = 2 ^ 22

-- factors
abbrev pub factor_bound : ℕ
factor_bound = 2 ^ 14

-- rotations over up to four blocks
abbrev pub turns_bound : ℕ
turns_bound = 2 ^ 19

-- a list has the rotations over 0 to 4 blocks
abbrev pub AreTurns : Complex → List Complex → Type 0
AreTurns c list = (n : ℕ) → n < 5 → complex_at list n ≡ turns c n
