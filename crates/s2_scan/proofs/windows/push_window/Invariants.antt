use Rattle.std.proofs.Common.{◌≡◌, ◌++◌}
use Rattle.std.specs.List.{flat_map, range_with_len}
use Rattle.s2_scan.specs.Passing.{passes_in_form}
use Rattle.s2_scan.proofs.windows.push_window.Given as goal

abbrev pub invariant-loop-form : goal.invariant-loop-form
invariant-loop-form l = l.passes.items ≡ l.initial.passes.items ++ flat_map (passes_in_form l.position l.window) (range_with_len 0 l.form)
