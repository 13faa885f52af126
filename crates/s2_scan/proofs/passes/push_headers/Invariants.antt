use Rattle.std.proofs.Common.{◌≡◌, ◌++◌}
use Rattle.std.specs.List.{flat_map, range_with_len}
use Rattle.s2_scan.specs.Passing.{passes_as}
use Rattle.s2_scan.proofs.passes.push_headers.Given as goal

abbrev pub invariant-loop-header : goal.invariant-loop-header
invariant-loop-header l = l.passes.items ≡ l.initial.passes.items ++ flat_map (passes_as l.position l.window l.form) (range_with_len 0 l.header)
