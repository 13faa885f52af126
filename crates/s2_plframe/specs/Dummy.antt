-- Dummy frames, which carry nothing: a header with MODCOD 0 and 36 slots of the carrier, without pilot blocks (EN 302
-- 307-1, 5.5.1). All but the header is rotated. Own: the header has TYPE 0.
use Rattle.std.specs.Prelude.{ℕ, ◌-◌, false, List, pos, map, nat_lt, if◌then◌else◌}
use Rattle.std.specs.List.{range_with_len}
use Rattle.s2_mode.specs.declared.symbols.Symbol.{Symbol}
use Rattle.s2_mode.specs.Symbols.{symbol}
use Rattle.s2_mode.specs.Limits.{header_symbols, dummy_symbols}
use Rattle.s2_scramble.specs.Gold.{quarter_turns}
use Rattle.s2_scramble.specs.Rotations.{rotated}
use Rattle.s2_map.specs.Constants.{diagonal}
use Rattle.s2_plframe.specs.Header.{header_symbol, dummy_mode}

-- the carrier without modulation
abbrev pub carrier : Symbol
carrier = symbol (pos diagonal) (pos diagonal)

-- symbol i of a dummy frame: the header with MODCOD 0 and TYPE 0, then 36 slots of (700, 700), rotated
abbrev pub dummy_symbol : ℕ → ℕ → Symbol
dummy_symbol number i =
    if nat_lt i header_symbols
    then header_symbol (dummy_mode false false) i
    else rotated (quarter_turns number (i - header_symbols)) carrier

-- all symbols of the frame
unfoldable pub dummy_frame : ℕ → List Symbol
dummy_frame number = map (dummy_symbol number) (range_with_len 0 dummy_symbols)
