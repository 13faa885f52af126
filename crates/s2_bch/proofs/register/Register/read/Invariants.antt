use Rattle.std.proofs.Common.{◌-◌, drop, length}
use Rattle.s2_bch.specs.Registers.{Holds}
use Rattle.s2_bch.proofs.register.Register.read.Given as goal

abbrev pub invariant-loop-i : goal.invariant-loop-i
invariant-loop-i l = Holds l.register (drop (length l.bits - l.i) l.bits)
