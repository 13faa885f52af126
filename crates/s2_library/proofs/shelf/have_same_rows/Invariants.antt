use Rattle.std.proofs.Common.{◌≡◌, ℕ, ◌<◌}
use Rattle.s2_rows.specs.Rows.{row_of}
use Rattle.s2_library.proofs.shelf.have_same_rows.Given as goal

abbrev pub invariant-loop-group : goal.invariant-loop-group
invariant-loop-group l = (g : ℕ) → g < l.group → row_of l.a g ≡ row_of l.b g
