-- The payload of a received frame: the symbols of the slots, rotated back (EN 302 307-1, 5.5). The negative of -32768
-- is 32767.
use Rattle.std.specs.Prelude.{ℕ, ◌+◌, ◌*◌, ◌/◌, ◌%◌, ◌<◌, List, length, map, if◌then◌else◌}
use Rattle.std.specs.List.{range_with_len}
use Rattle.s2_mode.specs.declared.symbols.Symbol.{Symbol}
use Rattle.s2_mode.specs.Symbols.{symbol_at}
use Rattle.s2_mode.specs.Limits.{header_symbols}
use Rattle.s2_mode.specs.Mode.{Mode, slots_of}
use Rattle.s2_scramble.specs.Gold.{quarter_turns}
use Rattle.s2_scramble.specs.Rotations.{rotated_back, CanRotateBack}
use Rattle.s2_plframe.specs.Constants.{pilot_spacing, pilot_period}

-- which symbol after the header payload symbol s is: a pilot block follows each 16 slots
abbrev pub slot_place : Mode → ℕ → ℕ
slot_place m s = if m.pilots then pilot_period * (s / pilot_spacing) + s % pilot_spacing else s

-- payload symbol s of a received frame: the symbol at its place, rotated back by R of the place
abbrev pub received_symbol : Mode → ℕ → List Symbol → ℕ → Symbol
received_symbol m number frame s = rotated_back (quarter_turns number (slot_place m s)) (symbol_at frame (header_symbols + slot_place m s))

-- the payload of a received frame: its payload symbols in order
abbrev pub received_payload : Mode → ℕ → List Symbol → List Symbol
received_payload m number frame = map (received_symbol m number frame) (range_with_len 0 (90 * slots_of m))

-- no component is -32768
abbrev pub AllRotateBack : List Symbol → Type 0
AllRotateBack symbols = (s : ℕ) → s < length symbols → CanRotateBack (symbol_at symbols s)
