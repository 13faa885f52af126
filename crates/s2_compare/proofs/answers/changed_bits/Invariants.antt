use Rattle.std.proofs.Common.{◌≡◌, ◌≤◌}
use Rattle.s2_bits.specs.Bits.{differences}
use Rattle.s2_compare.proofs.answers.changed_bits.Given as goal

abbrev pub invariant-bits : goal.invariant-bits
invariant-bits l = (l.changed ≤ l.i) × (l.changed ≡ differences l.i l.word l.view.bits)
