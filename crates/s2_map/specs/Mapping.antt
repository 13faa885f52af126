-- The bit interleaver and the constellations (EN 302 307-1, 5.3.3 and 5.4).
use Rattle.std.specs.Prelude.{ℕ, zero, suc, ◌+◌, ◌-◌, ◌*◌, ◌/◌, ◌%◌, ◌==◌, Bool, List, [], ◌∷◌, pos, neg_ℤ, map, if◌then◌else◌}
use Rattle.std.specs.List.{range_with_len}
use Rattle.s2_mode.specs.declared.symbols.Symbol.{Symbol}
use Rattle.s2_mode.specs.Symbols.{symbol, symbol_at}
use Rattle.s2_mode.specs.Mode.{Mode, is_qpsk, n_of, width_of, slots_of}
use Rattle.s2_bits.specs.Bits.{bit_at, number}
use Rattle.s2_map.specs.Constants.{diagonal, axis, psk_3_5}

-- the columns are read in the order 0, 1, 2, at 8PSK 3/5 in the order 2, 1, 0
abbrev pub column_of : Mode → ℕ → ℕ
column_of m c = if m.modcod == psk_3_5 then 2 - c else c

-- Which codeword bit is payload bit i. QPSK has no interleaver. 8PSK writes the codeword into three columns of n / 3
-- bits and reads row by row
abbrev pub place_of : Mode → ℕ → ℕ
place_of m i = if is_qpsk m then i else column_of m (i % 3) * (n_of m / 3) + i / 3

-- which payload bit codeword bit b is sent as: at 8PSK bit s of column c is payload bit 3s + c, at 8PSK 3/5 bit 3s + 2
-- - c
abbrev pub sent_as : Mode → ℕ → ℕ
sent_as m b = if is_qpsk m then b else 3 * (b % (n_of m / 3)) + column_of m (b / (n_of m / 3))

-- labels 00, 01, 10, 11: the first bit is the sign of I, the second that of Q
abbrev pub qpsk_points : List Symbol
qpsk_points =
    symbol (pos diagonal) (pos diagonal)
    ∷ symbol (pos diagonal) (neg_ℤ (pos diagonal))
    ∷ symbol (neg_ℤ (pos diagonal)) (pos diagonal)
    ∷ symbol (neg_ℤ (pos diagonal)) (neg_ℤ (pos diagonal))
    ∷ []

-- labels 000 to 111
abbrev pub psk_points : List Symbol
psk_points =
    symbol (pos diagonal) (pos diagonal)
    ∷ symbol (pos axis) (pos 0)
    ∷ symbol (neg_ℤ (pos axis)) (pos 0)
    ∷ symbol (neg_ℤ (pos diagonal)) (neg_ℤ (pos diagonal))
    ∷ symbol (pos 0) (pos axis)
    ∷ symbol (pos diagonal) (neg_ℤ (pos diagonal))
    ∷ symbol (neg_ℤ (pos diagonal)) (pos diagonal)
    ∷ symbol (pos 0) (neg_ℤ (pos axis))
    ∷ []

-- the points of a mode, by label
abbrev pub points : Mode → List Symbol
points m = if is_qpsk m then qpsk_points else psk_points

-- the point of a label
abbrev pub point_of : Mode → ℕ → Symbol
point_of m label = symbol_at (points m) label

-- n bits as a number, the first the highest
unfoldable pub label_of : ℕ → (ℕ → Bool) → ℕ
label_of zero bit = 0
label_of (suc n) bit = 2 * label_of n bit + number (bit n)

-- payload symbol s: the point whose label is payload bits w s to w s + w - 1, with w bits per symbol
abbrev pub payload_symbol : Mode → List Bool → ℕ → Symbol
payload_symbol m codeword s = point_of m (label_of (width_of m) (λ j. bit_at codeword (place_of m (width_of m * s + j))))

-- the payload of a frame: 90 symbols for each slot
abbrev pub payload_of : Mode → List Bool → List Symbol
payload_of m codeword = map (payload_symbol m codeword) (range_with_len 0 (90 * slots_of m))
