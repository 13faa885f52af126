use Rattle.std.proofs.Common.{rules, arith, ◌∙◌}
use Rattle.s2_rows.proofs.RowLines.{rows_end_early, rows_end_well}
use Rattle.s2_rows.proofs.row_file.read_lines.Goals as goal

pub returns-then-len-groups-clause-read : goal.returns-then-len-groups-clause-read
returns-then-len-groups-clause-read g c = c.loop-rest.invariant.0 ∙ rows_end_early _ _ _ _ _ (search rules) (omega arith)

pub returns-clause-read : goal.returns-clause-read
returns-clause-read g c = c.loop-rest.invariant.0 ∙ rows_end_well _ _ _ _ _ (search rules) (omega arith)
