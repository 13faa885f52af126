-- The lanes of symbols: their components, and inner products, as words in two's complement (own).
use Rattle.std.specs.Prelude.{◌<◌, ℕ, ◌*◌, ◌%◌, ◌/◌, ◌==◌, min, if◌then◌else◌, List, ℤ}
use Rattle.std.specs.Int.{cast_signed}
use Rattle.s2_mode.specs.declared.symbols.Symbol.{Symbol}
use Rattle.s2_mode.specs.Symbols.{symbol_at}
use Rattle.s2_bits.specs.Lanes.{lane}
use Rattle.s2_bits.specs.Lanes32.{minus32}
use mir.Syntax.{w16, w32}
use mir.Val.{SFits}

-- component b of symbols: I and Q of the first one, then of the next
abbrev pub component_at : List Symbol → ℕ → ℤ
component_at symbols b = if b % 2 == 0 then (symbol_at symbols (b / 2)).i else (symbol_at symbols (b / 2)).q

-- the number of a word of 32 bits
abbrev pub number : ℕ → ℤ
number v = cast_signed w32 v

-- the product of words of 32 bits
abbrev pub times32 : ℕ → ℕ → ℕ
times32 a b = a * b % 4294967296

-- the magnitude of a word of 32 bits
abbrev pub magnitude32 : ℕ → ℕ
magnitude32 v = min v (minus32 0 v)

-- the lanes represent components of 16 bits
abbrev pub AreComponents : List ℕ → Type 0
AreComponents v = (k : ℕ) → k < 4 → SFits w16 (number (lane v k))
