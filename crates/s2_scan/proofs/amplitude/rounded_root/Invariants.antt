use Rattle.std.proofs.Common.{◌≡◌, ◌≤◌}
use Rattle.std.specs.List.{count_by, range_with_len}
use Rattle.s2_scan.specs.Strength.{is_below_root}
use Rattle.s2_scan.proofs.amplitude.rounded_root.Given as goal

abbrev pub invariant-loop-k : goal.invariant-loop-k
invariant-loop-k l = record {
  is : l.root ≡ count_by (is_below_root l.mean) (range_with_len 0 l.k);
  most : l.root ≤ l.k;
}
