use Rattle.std.proofs.Common.{drop}
use Rattle.s2_rows.specs.RowTexts.{row_text}
use Rattle.s2_table.proofs.Hashing.{Hashed}
use Rattle.s2_table.proofs.rising.hash_row.Given as goal

-- what is hashed, and the text of the addresses that are left
abbrev pub invariant-loop-at : goal.invariant-loop-at
invariant-loop-at l = Hashed l.initial.hasher l.hasher (row_text l.row) (row_text (drop l.at l.row))
