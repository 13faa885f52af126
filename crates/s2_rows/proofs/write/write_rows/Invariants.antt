use Rattle.std.proofs.Common.{◌≡◌, ℕ, List, ◌++◌, drop}
use Rattle.std.specs.Io.KnownBytes.{Appends}
use Rattle.s2_rows.specs.RowTexts.{rows_text}
use Rattle.s2_rows.proofs.write.write_rows.Given as goal

-- what is written, and the text of the rows that are left
abbrev pub invariant-loop-g : goal.invariant-loop-g
invariant-loop-g g l =
    ((front : List ℕ) × Appends (g.W.CountedWrite.contents l.initial.out) (g.W.CountedWrite.contents l.out) front × (rows_text l.rows.rows ≡ front ++ rows_text (drop l.g l.rows.rows)))
    × (g.W.Counted.count l.out ≡ g.W.Counted.count l.initial.out)
