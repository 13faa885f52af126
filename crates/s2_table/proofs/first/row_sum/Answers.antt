use Rattle.std.proofs.Common.{◌∙◌, ap, []}
use Rattle.s2_rows.specs.RowTexts.{row_text}
use Rattle.s2_table.specs.RowSums.{front_of}
use Rattle.s2_table.proofs.first.row_sum.Goals as goal

pub returns : goal.returns
returns c =
    let text = row_text c.risen.result.items in
    let hashed = rw c.as_slice.ensures.value at c.hash_row.ensures [] c.new-hasher.ensures in
    let is = c.finalize-digest.ensures text hashed in
    (c.risen.result.items, c.risen.ensures, c.from_be_bytes.ensures ∙ ap front_of is)
