use Rattle.std.proofs.Common.{◌≡◌, ◌+◌, ◌≤◌, drop}
use Rattle.s2_scan.specs.Candidates.{occurrences}
use Rattle.s2_scan.proofs.distances.occurrences.Given as goal

abbrev pub invariant-loop-k : goal.invariant-loop-k
invariant-loop-k l = record {
  is : l.count + occurrences l.distance (drop l.k l.distances) ≡ occurrences l.distance l.distances;
  most : l.count ≤ l.k;
}
