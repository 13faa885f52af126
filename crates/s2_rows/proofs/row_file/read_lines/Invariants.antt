use Rattle.std.proofs.Common.{◌≡◌, ◌-◌, ◌+◌, ◌≤◌, length, map, vec_len, vec_capacity}
use Rattle.s2_mode.specs.Shape.{check_count}
use Rattle.s2_rows.specs.Readings.{after}
use Rattle.s2_rows.specs.RowFiles.{rows_of, rows_of_text}
use Rattle.s2_rows.specs.Text.{lines_of}
use Rattle.s2_rows.proofs.row_file.read_lines.Given as goal

-- the rows so far, and what the lines that are left go on with
abbrev pub invariant-loop-rest : goal.invariant-loop-rest
invariant-loop-rest g l =
    (rows_of_text l.text l.shape ≡ after (map (λ row. row.items) l.rows.items) (rows_of (check_count l.shape) (l.shape.groups - vec_len l.rows) l.number (lines_of l.rest)))
    × (l.shape.groups ≤ vec_capacity l.rows) × (vec_len l.rows ≤ l.shape.groups) × (l.number + length l.rest ≤ 1 + length l.text)

abbrev pub decreases-loop-rest : goal.decreases-loop-rest
decreases-loop-rest g l = length l.rest
