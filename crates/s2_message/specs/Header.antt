-- The header of a received frame, its first 90 symbols (EN 302 307-1, 5.5.2): its wrong bits, and its energy (own).
use Rattle.std.specs.Prelude.{ℕ, ◌*◌, ◌+◌, unsigned_abs, List, take, map}
use Rattle.std.specs.List.{sum_by}
use Rattle.s2_mode.specs.declared.symbols.Symbol.{Symbol}
use Rattle.s2_mode.specs.Limits.{header_symbols}
use Rattle.s2_mode.specs.Mode.{Mode}
use Rattle.s2_plframe.specs.Header.{header_bit}
use Rattle.s2_plframe.specs.Search.{decision, wrong_bits}

-- the number of bits, of 90, whose decisions differ from the header of the mode
unfoldable pub header_errors : Mode → List Symbol → ℕ
header_errors m symbols = wrong_bits (header_bit m) (map decision (take header_symbols symbols))

-- I * I + Q * Q
abbrev pub symbol_energy : Symbol → ℕ
symbol_energy s = unsigned_abs s.i * unsigned_abs s.i + unsigned_abs s.q * unsigned_abs s.q

-- the energies of symbols, summed
unfoldable pub energy_of : List Symbol → ℕ
energy_of symbols = sum_by symbol_energy symbols
