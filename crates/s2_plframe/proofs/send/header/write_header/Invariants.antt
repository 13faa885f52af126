use Rattle.std.proofs.Common.{◌≡◌, ℕ, ◌<◌}
use Rattle.s2_mode.specs.Mode.{mode_of}
use Rattle.s2_mode.specs.Symbols.{symbol_at}
use Rattle.s2_plframe.specs.Header.{header_symbol}
use Rattle.s2_plframe.proofs.send.header.write_header.Given as goal

abbrev pub invariant-loop-i : goal.invariant-loop-i
invariant-loop-i l = (k : ℕ) → k < l.i → symbol_at l.out k ≡ header_symbol (mode_of l.code.modcod l.code.short l.code.pilots) k
