use Rattle.std.proofs.Common.{◌≡◌, ◌≤◌}
use Rattle.s2_bits.specs.Bits.{differences}
use Rattle.s2_bits.proofs.bools.distance.Given as goal

abbrev pub invariant-loop-i : goal.invariant-loop-i
invariant-loop-i l = (l.apart ≤ l.i) × (l.apart ≡ differences l.i l.a l.b)
