use Rattle.std.proofs.Common.{◌≡◌, ◌++◌, take, drop}
use Rattle.s2_scan.specs.Candidates.{tallied}
use Rattle.s2_scan.proofs.tally.add.Given as goal

-- the distance is none of those before
abbrev pub invariant-loop-k : goal.invariant-loop-k
invariant-loop-k l = record {
  same : l.table.items ≡ l.initial.table.items;
  found : tallied l.distance l.table.items ≡ take l.k l.table.items ++ tallied l.distance (drop l.k l.table.items);
}
