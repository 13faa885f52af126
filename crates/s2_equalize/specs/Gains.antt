-- The gain of a received frame at each block of symbols that are known before anything is decided (own). The blocks are the
-- header, and the pilot blocks (EN 302 307-1, 5.5.2 and 5.5.3).
use Rattle.std.specs.Prelude.{ℕ, zero, suc, ◌+◌, ◌-◌, ◌*◌, ◌==◌, pos, List, [], length, map, nat_le, min, if◌then◌else◌}
use Rattle.std.specs.List.{range_with_len}
use Rattle.s2_mode.specs.declared.symbols.Symbol.{Symbol}
use Rattle.s2_mode.specs.Symbols.{symbol_at}
use Rattle.s2_mode.specs.Limits.{header_symbols}
use Rattle.s2_mode.specs.Mode.{Mode}
use Rattle.s2_plframe.specs.Constants.{pilot_block, pilot_period, pilot_spacing}
use Rattle.s2_plframe.specs.Frame.{frame_symbols}
use Rattle.s2_equalize.specs.declared.complex.Complex.{Complex}
use Rattle.s2_equalize.specs.Complex.{complex, complex_at, energy, number_of, over, root, scaled, sum_from, times, times_conjugate}

-- the frame without a payload: its known symbols, and the origin at all other places
unfoldable pub known_frame : Mode → ℕ → List Symbol
known_frame m number = frame_symbols m number []

-- the first symbol of a block: block 0 is the header, and the others are the pilot blocks, counted from 1
abbrev pub block_start : ℕ → ℕ
block_start zero = 0
block_start (suc k) = header_symbols + pilot_period * k + pilot_spacing

-- the number of its symbols
abbrev pub block_length : ℕ → ℕ
block_length zero = header_symbols
block_length (suc k) = pilot_block

-- a received symbol times the conjugate of the symbol that was sent there
abbrev pub correlation_at : List Symbol → List Symbol → ℕ → Complex
correlation_at received sent i = times_conjugate (number_of (symbol_at received i)) (number_of (symbol_at sent i))

-- the gain of some symbols, in 1/1024: their correlation, divided by the energy of those that were sent, 980000 each
unfoldable pub gain_of : List Symbol → List Symbol → ℕ → ℕ → Complex
gain_of received sent at n = over (980000 * n) (scaled 1024 (sum_from (correlation_at received sent) at n))

-- that of a block
abbrev pub block_gain : List Symbol → List Symbol → ℕ → Complex
block_gain received sent k = gain_of received sent (block_start k) (block_length k)

-- the gains of the header and of the pilot blocks
unfoldable pub gains_of : List Symbol → List Symbol → ℕ → List Complex
gains_of received sent blocks = map (block_gain received sent) (range_with_len 0 (blocks + 1))

-- a gain times the conjugate of the one before it, whose angle is the rotation from block to block
abbrev pub turn_at : List Complex → ℕ → Complex
turn_at gains k = times_conjugate (complex_at gains (k + 1)) (complex_at gains k)

-- these, summed over all blocks, in 1/128
unfoldable pub turn_sum : List Complex → Complex
turn_sum gains = over 128 (sum_from (turn_at gains) 0 (length gains - 1))

-- turns have the size 32768
abbrev pub no_turn : Complex
no_turn = complex (pos 32768) (pos 0)

-- a number of any other size as a rotation: divided by its size
unfoldable pub turn_of : Complex → Complex
turn_of a = if root (energy a) == 0 then no_turn else over (root (energy a)) (scaled 32768 a)

-- the rotation from block to block: that of the sum
abbrev pub turn : List Complex → Complex
turn gains = turn_of (turn_sum gains)

-- n rotations in one
unfoldable pub turns : Complex → ℕ → Complex
turns c zero = no_turn
turns c (suc n) = over 32768 (times (turns c n) c)

-- the gain of block l, rotated to block k: on or back by the blocks between them
unfoldable pub turned : List Complex → Complex → ℕ → ℕ → Complex
turned gains c k l = if nat_le l k then times (complex_at gains l) (turns c (k - l)) else times_conjugate (complex_at gains l) (turns c (l - k))

-- the weight of a block: the header, which is longer, counts twice
abbrev pub weight : ℕ → ℕ
weight l = if l == 0 then 2 else 1

-- what n blocks count together
unfoldable pub weights : ℕ → ℕ → ℕ
weights at zero = 0
weights at (suc n) = weights at n + weight (at + n)

-- the blocks that are near block k: it, and the four before and after it, as far as they are there
abbrev pub first_near : ℕ → ℕ
first_near k = k - 4

abbrev pub count_near : List Complex → ℕ → ℕ
count_near gains k = min (k + 5) (length gains) - first_near k

-- the smoothed gain of block k: the weighted mean of the gains near it, rotated to it
unfoldable pub mean_gain : List Complex → Complex → ℕ → Complex
mean_gain gains c k =
    over (32768 * weights (first_near k) (count_near gains k))
    (sum_from (λ l. scaled (weight l) (turned gains c k l)) (first_near k) (count_near gains k))

-- the same after the last block too: there its gain is rotated once more
unfoldable pub smoothed_gain : List Complex → Complex → ℕ → Complex
smoothed_gain gains c k = if nat_le (length gains) k then over 32768 (times (mean_gain gains c (length gains - 1)) c) else mean_gain gains c k

-- the smoothed gains of all blocks, and of one after them
unfoldable pub smoothed : List Complex → List Complex
smoothed gains = map (smoothed_gain gains (turn gains)) (range_with_len 0 (length gains + 1))
