use Rattle.std.proofs.Common.{◌≡◌}
use Rattle.std.specs.List.{flat_map, range_with_len}
use Rattle.s2_scan.specs.Candidates.{candidates_as}
use Rattle.s2_scan.proofs.candidates.all_candidates.Given as goal

abbrev pub invariant-loop-form : goal.invariant-loop-form
invariant-loop-form l = l.candidates.items ≡ flat_map (candidates_as l.passes) (range_with_len 0 l.form)
