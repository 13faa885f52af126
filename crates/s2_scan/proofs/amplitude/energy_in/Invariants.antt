use Rattle.std.proofs.Common.{◌≡◌, ◌+◌, ◌*◌, ◌^◌, ◌≤◌, drop}
use Rattle.s2_scan.specs.Candidates.{energy_in}
use Rattle.s2_scan.proofs.amplitude.energy_in.Given as goal

abbrev pub invariant-loop-k : goal.invariant-loop-k
invariant-loop-k l = record {
  is : l.energy + energy_in (drop l.k l.passes) ≡ energy_in l.passes;
  most : l.energy ≤ 2 ^ 64 * l.k;
}
