use Rattle.std.proofs.Common.{◌≡◌, take}
use Rattle.std.specs.List.{filter}
use Rattle.s2_scan.specs.Candidates.{is_of}
use Rattle.s2_scan.proofs.distances.picked.Given as goal

abbrev pub invariant-loop-k : goal.invariant-loop-k
invariant-loop-k l = l.picked.items ≡ filter (is_of l.form l.header) (take l.k l.passes)
