-- The equalizer with one tap (own): each symbol of a frame is divided by the gain of the channel. The gain is estimated from
-- the symbols that are known, and is linear between the centres of their blocks.
use Rattle.std.specs.Prelude.{ℕ, ◌+◌, ◌-◌, ◌*◌, ◌/◌, ◌%◌, ◌^◌, max, min, ℤ, pos, negsuc, unsigned_abs, List, length, map}
use Rattle.std.specs.List.{range_with_len}
use Rattle.std.specs.Int.{w64, int_max, int_min, leading_zeros}
use Rattle.s2_mode.specs.declared.symbols.Symbol.{Symbol}
use Rattle.s2_mode.specs.Symbols.{symbol, symbol_at}
use Rattle.s2_mode.specs.Limits.{header_symbols}
use Rattle.s2_mode.specs.Mode.{Mode, pilot_blocks_of, symbols_in}
use Rattle.s2_plframe.specs.Constants.{pilot_block}
use Rattle.s2_equalize.specs.declared.complex.Complex.{Complex}
use Rattle.s2_equalize.specs.Complex.{complex_at, conjugate, energy, number_of, over, plus, scaled, times}
use Rattle.s2_equalize.specs.declared.equalizer.Removed.{Removed}
use Rattle.s2_equalize.specs.Gains.{known_frame, gains_of, smoothed, turn}

-- the number of binary digits of the larger part of a number
unfoldable pub digits : Complex → ℕ
digits a = 64 - leading_zeros w64 (max (unsigned_abs a.re) (unsigned_abs a.im))

-- The energy by which a gain is inverted: 2^b is about the size of a usual gain. Less than a quarter of that counts as
-- a quarter, so that symbols without a signal become small
unfoldable pub divisor : ℕ → Complex → ℕ
divisor b a = max 1 (max (2 ^ (2 * b) / 16) (energy a))

-- one divided by a gain, in 2^-(b + 2)
unfoldable pub reciprocal : ℕ → Complex → Complex
reciprocal b a = over (divisor b a) (scaled (2 ^ (b + 12)) (conjugate a))

-- The factors of a frame at the centres of its blocks: one divided by each smoothed gain. The header's gain is a usual one
abbrev pub fineness : List Complex → ℕ
fineness gains = digits (complex_at gains 0)

unfoldable pub factors_of : List Complex → List Complex
factors_of gains = map (reciprocal (fineness gains)) gains

-- the stretch of 36 symbols that symbol i of a frame is in; the header is in the first
abbrev pub stretch : ℕ → ℕ
stretch i = (i - header_symbols) / pilot_block

-- The factor for a stretch. From the centre of a block to that of the next one there are 41 stretches, and it goes there in
-- a straight line. Without pilots it is always the header's
unfoldable pub factor_at : List Complex → ℕ → Complex
factor_at factors t =
    let k = min ((t + 1) / 41) (length factors - 2) in
    let j = (t + 1) % 41 in
    over 41 (plus (scaled (41 - j) (complex_at factors k)) (scaled j (complex_at factors (k + 1))))

-- a number as a component of 16 bits, or the nearest one
abbrev pub limited : ℤ → ℤ
limited x = int_max (negsuc 32767) (int_min x (pos 32767))

-- a symbol times a factor, rounded
unfoldable pub multiplied : ℕ → Complex → Symbol → Symbol
multiplied b factor s =
    let product = over (2 ^ (b + 2)) (times (number_of s) factor) in
    symbol (limited product.re) (limited product.im)

-- symbol i of a frame, by its smoothed gains
abbrev pub equalized_symbol : List Complex → List Symbol → ℕ → Symbol
equalized_symbol gains symbols i = multiplied (fineness gains) (factor_at (factors_of gains) (stretch i)) (symbol_at symbols i)

-- the smoothed gains of a received frame
abbrev pub frame_gains : Mode → ℕ → List Symbol → List Complex
frame_gains m number symbols = smoothed (gains_of symbols (known_frame m number) (pilot_blocks_of m))

-- the symbols of a received frame, each divided by the gain of the channel. A symbol with no signal in its frame is the origin
unfoldable pub equalized : Mode → ℕ → List Symbol → List Symbol
equalized m number symbols = map (equalized_symbol (frame_gains m number symbols) symbols) (range_with_len 0 (symbols_in m))

-- the gain that is removed from a frame, the smoothed one of its header, and the rotation from block to block
unfoldable pub removed : Mode → ℕ → List Symbol → Removed
removed m number symbols =
    record { gain = complex_at (frame_gains m number symbols) 0; rotation = turn (gains_of symbols (known_frame m number) (pilot_blocks_of m)) }

-- what an equalizer is made for: frames of a mode, with a scrambling number
pub record Equalizer : Type 0 where
  pub mode : Mode
  pub number : ℕ

-- the equalizer of a mode and a scrambling number
abbrev pub equalizer_of : Mode → ℕ → Equalizer
equalizer_of mode number = record { mode = mode; number = number }
