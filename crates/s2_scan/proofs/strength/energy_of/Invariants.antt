use Rattle.std.proofs.Common.{◌≡◌, ◌*◌, ◌^◌, ◌≤◌}
use Rattle.std.specs.List.{range_with_len, sum_by}
use Rattle.s2_scan.specs.Strength.{energy_at}
use Rattle.s2_scan.proofs.strength.energy_of.Given as goal

abbrev pub invariant-loop-k : goal.invariant-loop-k
invariant-loop-k l = record {
  is : l.energy ≡ sum_by (energy_at l.little l.bytes) (range_with_len 0 l.k);
  most : l.energy ≤ 2 ^ 64 * l.k;
}
