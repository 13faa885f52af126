use Rattle.std.proofs.Common.{rules}
use Rattle.s2_rows.proofs.Accepted.{is_rows}
use Rattle.s2_rows.proofs.row_file.read_rows.Goals as goal

pub from_parts-requires : goal.from_parts-requires
from_parts-requires c = is_rows c.args.text.now c.args.shape _ c.read_lines.ensures.valid (search rules)
