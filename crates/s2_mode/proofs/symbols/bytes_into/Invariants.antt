use Rattle.std.proofs.Common.{◌≡◌, ◌*◌, take}
use Rattle.s2_mode.specs.Symbols.{bytes_of_symbols}
use Rattle.s2_mode.proofs.symbols.bytes_into.Given as goal

-- the first symbols are spelt
abbrev pub invariant-loop-i : goal.invariant-loop-i
invariant-loop-i l = take (4 * l.i) l.bytes ≡ bytes_of_symbols (take l.i l.symbols)
