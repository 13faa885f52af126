use Rattle.std.proofs.Common.{◌≡◌, ◌-◌, ◌++◌, drop, get_or}
use Rattle.s2_scan.specs.Candidates.{distances, distances_from}
use Rattle.s2_scan.proofs.Gaps.{no_pass}
use Rattle.s2_scan.proofs.distances.distances.Given as goal

-- with those of the passes that are left, all of them
abbrev pub invariant-loop-k : goal.invariant-loop-k
invariant-loop-k l = l.distances.items ++ distances_from (get_or l.passes (l.k - 1) no_pass).position (drop l.k l.passes) ≡ distances l.passes
