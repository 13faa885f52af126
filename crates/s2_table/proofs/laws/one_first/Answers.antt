use Rattle.s2_table.proofs.RowSumLaws.{one_other}
use Rattle.s2_table.proofs.laws.one_first.Goals as goal

pub returns : goal.returns
returns c = one_other
