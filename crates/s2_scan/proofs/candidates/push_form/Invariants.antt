use Rattle.std.proofs.Common.{◌≡◌, ◌++◌}
use Rattle.std.specs.List.{flat_map, range_with_len}
use Rattle.s2_scan.specs.Candidates.{candidates_in}
use Rattle.s2_scan.proofs.candidates.push_form.Given as goal

abbrev pub invariant-loop-header : goal.invariant-loop-header
invariant-loop-header l = l.candidates.items ≡ l.initial.candidates.items ++ flat_map (candidates_in l.passes l.form) (range_with_len 0 l.header)
