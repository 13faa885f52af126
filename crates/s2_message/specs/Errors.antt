-- The squared distances of a received frame to the frame that was sent, at its known places and at the payload's (own).
use Rattle.std.specs.Prelude.{ℕ, ◌-◌, ◌*◌, ◌+◌, ◌%◌, ◌&&◌, ◌||◌, Bool, not, ◌-ℤ◌, unsigned_abs, List, nat_lt, nat_le}
use Rattle.std.specs.List.{filter, range_with_len, sum_by}
use Rattle.s2_mode.specs.declared.symbols.Symbol.{Symbol}
use Rattle.s2_mode.specs.Symbols.{symbol_at}
use Rattle.s2_mode.specs.Limits.{header_symbols}
use Rattle.s2_mode.specs.Mode.{Mode, symbols_in}
use Rattle.s2_plframe.specs.Constants.{pilot_spacing, pilot_period}

-- the squared distance of two symbols
abbrev pub squared_distance : Symbol → Symbol → ℕ
squared_distance s p = unsigned_abs (s.i -ℤ p.i) * unsigned_abs (s.i -ℤ p.i) + unsigned_abs (s.q -ℤ p.q) * unsigned_abs (s.q -ℤ p.q)

-- the squared distance of symbol i of a received frame to symbol i of the frame that was sent
abbrev pub error_at : List Symbol → List Symbol → ℕ → ℕ
error_at received sent i = squared_distance (symbol_at received i) (symbol_at sent i)

-- n terms, from a place on, summed
unfoldable pub sum_from : (ℕ → ℕ) → ℕ → ℕ → ℕ
sum_from f at n = sum_by f (range_with_len at n)

-- Whether symbol i of a frame is known before anything is decided (EN 302 307-1, 5.5.2 and 5.5.3). It is one of the
-- header's 90, or it is in a pilot block, which follows each 16 slots
abbrev pub is_known : Mode → ℕ → Bool
is_known m i = nat_lt i header_symbols || (m.pilots && nat_le pilot_spacing ((i - header_symbols) % pilot_period))

-- the places of a frame's known symbols
unfoldable pub known_places : Mode → List ℕ
known_places m = filter (is_known m) (range_with_len 0 (symbols_in m))

-- all other places, which are the payload's
unfoldable pub payload_places : Mode → List ℕ
payload_places m = filter (λ i. not (is_known m i)) (range_with_len 0 (symbols_in m))
