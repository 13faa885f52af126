use Rattle.std.proofs.Common.{◌≡◌, ◌≤◌}
use Rattle.std.specs.List.{count_by, range_with_len}
use Rattle.s2_scan.specs.Strength.{is_clipped}
use Rattle.s2_scan.proofs.strength.clipped_in.Given as goal

abbrev pub invariant-loop-place : goal.invariant-loop-place
invariant-loop-place l = record {
  is : l.count ≡ count_by (is_clipped l.little l.bytes) (range_with_len 0 l.place);
  most : l.count ≤ l.place;
}
