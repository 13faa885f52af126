use Rattle.std.proofs.Common.{ℕ, List}
use Rattle.sha2.specs.Hashers.{Holds256}
use Rattle.s2_rows.specs.RowTexts.{rows_text}
use Rattle.s2_table.proofs.RisenRows.{RisenBefore}
use Rattle.s2_table.proofs.rising.digest_of.Given as goal

-- the text of the rows before this group is hashed
abbrev pub invariant-loop-group : goal.invariant-loop-group
invariant-loop-group l = (rows : List (List ℕ)) × RisenBefore l.matrix l.group rows × Holds256 l.hasher (rows_text rows)
