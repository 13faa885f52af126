use Rattle.s2_rows.proofs.RowFileTexts.{row_file_is_read}
use Rattle.s2_rows.proofs.laws.row_files.Goals as goal

pub returns : goal.returns
returns c = row_file_is_read
