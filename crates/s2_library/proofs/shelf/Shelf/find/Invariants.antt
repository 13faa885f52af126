use Rattle.std.proofs.Common.{ℕ, ◌<◌, get_or}
use Rattle.s2_library.specs.Shelves.{HaveSameRows}
use Rattle.s2_library.proofs.shelf.Shelf.find.Given as goal

abbrev pub invariant-loop-code : goal.invariant-loop-code
invariant-loop-code l = (k : ℕ) → k < l.code-index → HaveSameRows (get_or l.self k l.matrix) l.matrix → ⊥
