use Rattle.std.proofs.Common.{◌≡◌, take, map}
use Rattle.s2_matrix.proofs.lists.copy_rows.Given as goal

abbrev pub invariant-loop-i : goal.invariant-loop-i
invariant-loop-i l = map (λ row. row.items) l.copy.items ≡ take l.i l.rows.rows
