use Rattle.std.proofs.Common.{◌≡◌, [], length, Ok}
use Rattle.s2_rows.specs.RowFiles.{row_from}
use Rattle.s2_rows.specs.Text.{tokens_of}
use Rattle.s2_rows.proofs.row_file.read_row.Given as goal

-- the row so far, and the tokens that it goes on with
abbrev pub invariant-loop-rest : goal.invariant-loop-rest
invariant-loop-rest l = row_from l.checks l.number (Ok []) (tokens_of l.line) ≡ row_from l.checks l.number (Ok l.row.items) (tokens_of l.rest)

abbrev pub decreases-loop-rest : goal.decreases-loop-rest
decreases-loop-rest l = length l.rest
