use Rattle.s2_rows.proofs.WrittenRows.{written_is_read}
use Rattle.s2_rows.proofs.laws.read_back.Goals as goal

pub returns : goal.returns
returns c = written_is_read
