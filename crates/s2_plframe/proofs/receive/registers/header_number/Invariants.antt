use Rattle.s2_mode.specs.Mode.{mode_of}
use Rattle.s2_plframe.specs.Header.{header_bit}
use Rattle.s2_plframe.proofs.HeaderBits.{HoldsBits}
use Rattle.s2_plframe.proofs.receive.registers.header_number.Given as goal

abbrev pub invariant-loop-k : goal.invariant-loop-k
invariant-loop-k l = HoldsBits (header_bit (mode_of l.code.modcod l.code.short l.code.pilots)) l.k l.number
