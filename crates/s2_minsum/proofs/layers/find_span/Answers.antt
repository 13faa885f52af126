use Rattle.std.proofs.Common.{◌+◌, arith}
use Rattle.s2_minsum.proofs.FirstRows.{first_row_more, first_row_before, few_entries}
use Rattle.s2_minsum.proofs.layers.find_span.Goals as goal

pub overflow_sub-result : goal.overflow_sub-result
overflow_sub-result c =
    let rows = c.args.matrix.now in
    let r = c.args.r in
    omega (arith, c.requires.layers.layer_starts_are r (omega arith), c.requires.layers.layer_starts_are (r + 1) (omega arith), first_row_more rows r)

pub returns-clause-count : goal.returns-clause-count
returns-clause-count c =
    let rows = c.args.matrix.now in
    let r = c.args.r in
    omega (arith, c.requires.layers.layer_starts_are r (omega arith), c.requires.layers.layer_starts_are (r + 1) (omega arith), first_row_more rows r)

pub returns-clause-entries : goal.returns-clause-entries
returns-clause-entries c =
    let rows = c.args.matrix.now in
    let r = c.args.r in
    omega (arith, c.requires.layers.layer_starts_are r (omega arith), c.requires.layers.layer_starts_are (r + 1) (omega arith), first_row_more rows r, first_row_before rows r rows.shape.q c.requires.layer, c.requires.layers.entries_long)

pub returns-clause-few : goal.returns-clause-few
returns-clause-few c =
    let rows = c.args.matrix.now in
    let r = c.args.r in
    omega (arith, c.requires.layers.layer_starts_are r (omega arith), c.requires.layers.layer_starts_are (r + 1) (omega arith), first_row_more rows r, few_entries rows c.requires.layers.fit.shaped r)
