use Rattle.std.proofs.Common.{◌≡◌, ℕ, List, ◌++◌, drop}
use Rattle.std.specs.Io.KnownBytes.{Appends}
use Rattle.s2_rows.specs.RowTexts.{row_text}
use Rattle.s2_rows.proofs.write.write_row.Given as goal

-- what is written, and the text of the addresses that are left
abbrev pub invariant-loop-at : goal.invariant-loop-at
invariant-loop-at g l =
    ((front : List ℕ) × Appends (g.W.CountedWrite.contents l.initial.out) (g.W.CountedWrite.contents l.out) front × (row_text l.row ≡ front ++ row_text (drop l.at l.row)))
    × (g.W.Counted.count l.out ≡ g.W.Counted.count l.initial.out)
