use Rattle.std.proofs.Common.{◌≡◌, length}
use Rattle.s2_mode.specs.Limits.{max_soft}
use Rattle.s2_minsum.specs.Decoding.{AreWithin}
use Rattle.s2_part_tests.proofs.values.soft_values.Given as goal

abbrev pub invariant-loop-value : goal.invariant-loop-value
invariant-loop-value l = record {
  long : length l.soft.items ≡ l.value-index;
  small : AreWithin max_soft l.soft.items;
}
