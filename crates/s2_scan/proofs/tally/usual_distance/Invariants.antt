use Rattle.std.proofs.Common.{◌≡◌, [], drop}
use Rattle.s2_scan.specs.Candidates.{tally_of}
use Rattle.s2_scan.proofs.tally.usual_distance.Given as goal

abbrev pub invariant-loop-k : goal.invariant-loop-k
invariant-loop-k l = tally_of (drop l.k l.distances) l.table.items ≡ tally_of l.distances []
