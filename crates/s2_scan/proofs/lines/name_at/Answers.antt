use Rattle.std.proofs.Common.{◌/◌, [], sym}
use Rattle.std.proofs.lemmas.List.{get_or_past}
use Rattle.s2_scan.specs.Lines.{name_at, names}
use Rattle.s2_scan.proofs.lines.name_at.Goals as goal

pub returns-else-modcod-lt29 : goal.returns-else-modcod-lt29
unfolding name_at
returns-else-modcod-lt29 c = sym (get_or_past names (c.args.header / 4) [] c.if-modcod-lt29.false)
