use Rattle.s2_rows.proofs.DrawnRows.{made_rows_are}
use Rattle.s2_rows.proofs.laws.made_rows.Goals as goal

pub returns : goal.returns
returns c = made_rows_are
