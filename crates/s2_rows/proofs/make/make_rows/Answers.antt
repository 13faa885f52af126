use Rattle.s2_rows.proofs.DrawnRows.{are_made}
use Rattle.s2_rows.proofs.make.make_rows.Goals as goal

pub from_parts-requires : goal.from_parts-requires
from_parts-requires c = are_made c.args.shape c.args.weight c.args.seed _ c.draw_rows.ensures.valid c.in_ok-rows.ensures.made
