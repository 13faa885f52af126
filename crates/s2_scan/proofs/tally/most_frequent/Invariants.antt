use Rattle.std.proofs.Common.{◌≡◌, drop}
use Rattle.s2_scan.specs.Candidates.{most_frequent, no_tally}
use Rattle.s2_scan.proofs.tally.most_frequent.Given as goal

abbrev pub invariant-loop-k : goal.invariant-loop-k
invariant-loop-k l = most_frequent (drop l.k l.table) l.best ≡ most_frequent l.table no_tally
