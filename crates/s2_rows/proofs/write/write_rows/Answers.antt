use Rattle.std.proofs.Common.{rules, arith, ap, ◌<◌, ◌≤◌, length}
use Rattle.s2_rows.proofs.RowWrites.{writes_on, all_written, line_text, rows_written}
use Rattle.s2_rows.proofs.WrittenRows.{written_is_read}
use Rattle.s2_rows.proofs.write.write_rows.Goals as goal

pub loop-g-preserved : goal.loop-g-preserved
loop-g-preserved g c =
    let below : c.loop-g.g < length c.args.rows.now.rows = omega (arith, c.shape.ensures.valid.long, ap (λ s. s.groups) c.shape.ensures.is) in
    let line = rw (c.row.ensures.are) at c.in_ok-write_row.ensures.line in
    (writes_on _ _ _ _ _ _ _ c.loop-g.invariant.0 line (line_text _ _ below), search rules)

pub returns-clause-lines : goal.returns-clause-lines
returns-clause-lines g c =
    let end : length c.args.rows.now.rows ≤ c.loop-g.g = omega (arith, c.shape.ensures.valid.long, ap (λ s. s.groups) c.shape.ensures.is) in
    all_written _ _ _ _ c.loop-g.invariant.0 (rows_written _ _ end)

pub returns-clause-read_back : goal.returns-clause-read_back
returns-clause-read_back g c = written_is_read c.args.rows.now c.shape.ensures.valid
