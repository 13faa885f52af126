-- The header of a physical layer frame, the PLHEADER (EN 302 307-1, 5.5.2): the start of frame (SOF), 26 bits, and the
-- code of MODCOD and TYPE (PLSCODE), 64 bits.
use Rattle.std.specs.Prelude.{ℕ, zero, suc, ◌+◌, ◌-◌, ◌/◌, ◌%◌, ◌==◌, ◌&&◌, Bool, false, List, [], ◌∷◌, pos, neg_ℤ, slice_index, map, nat_lt, if◌then◌else◌}
use Rattle.std.specs.List.{range_with_len}
use Rattle.s2_mode.specs.declared.symbols.Symbol.{Symbol}
use Rattle.s2_mode.specs.Symbols.{symbol}
use Rattle.s2_mode.specs.Limits.{header_symbols}
use Rattle.s2_mode.specs.Mode.{Mode, mode_of}
use Rattle.s2_bits.specs.Bits.{xor, bit_of_number}
use Rattle.s2_map.specs.Constants.{diagonal}

-- A header has a MODCOD and a TYPE. TYPE's upper bit is one for short frames, its lower bit for pilots. Dummy frames
-- have MODCOD 0, which is no mode, and any TYPE
abbrev pub dummy_mode : Bool → Bool → Mode
dummy_mode short pilots = mode_of 0 short pilots

-- the rows of the code, 32 bits each
abbrev pub generator : List ℕ
generator = 0x55555555 ∷ 0x33333333 ∷ 0x0F0F0F0F ∷ 0x00FF00FF ∷ 0x0000FFFF ∷ 0xFFFFFFFF ∷ []

-- which of them are added: the five bits of MODCOD choose among the first five, and the upper bit of TYPE the last
abbrev pub chosen : Mode → ℕ → Bool
chosen m r = if r == 5 then m.short else bit_of_number 5 m.modcod r

-- bit k of the sum of those that are chosen among the first n
unfoldable pub sum_of_rows : Mode → ℕ → ℕ → Bool
sum_of_rows m zero k = false
sum_of_rows m (suc r) k = xor (sum_of_rows m r k) (chosen m r && bit_of_number 32 (slice_index generator r) k)

-- each bit y of the sum is sent as y, and then as y plus the lower bit of TYPE
abbrev pub code_bit : Mode → ℕ → Bool
code_bit m j = xor (sum_of_rows m 6 (j / 2)) (if j % 2 == 1 then m.pilots else false)

-- a header's bit: the 26 bits of the start of frame, 18D2E82 hexadecimal, then the 64 bits of MODCOD and TYPE,
-- scrambled with 719D83C953422DFA
abbrev pub header_bit : Mode → ℕ → Bool
header_bit m k = if nat_lt k 26 then bit_of_number 26 0x18D2E82 k else xor (code_bit m (k - 26)) (bit_of_number 64 0x719D83C953422DFA (k - 26))

-- a header bit as symbol i, from 0: in the first, third and so on (A, A) for 0 and (-A, -A) for 1, in the others (-A, A) and (A, -A)
abbrev pub header_point : ℕ → Bool → Symbol
header_point i bit =
    if i % 2 == 0
    then (if bit then symbol (neg_ℤ (pos diagonal)) (neg_ℤ (pos diagonal)) else symbol (pos diagonal) (pos diagonal))
    else (if bit then symbol (pos diagonal) (neg_ℤ (pos diagonal)) else symbol (neg_ℤ (pos diagonal)) (pos diagonal))

-- symbol i of a mode's header
abbrev pub header_symbol : Mode → ℕ → Symbol
header_symbol m i = header_point i (header_bit m i)

-- all symbols of the header
abbrev pub header_of : Mode → List Symbol
header_of m = map (header_symbol m) (range_with_len 0 header_symbols)
