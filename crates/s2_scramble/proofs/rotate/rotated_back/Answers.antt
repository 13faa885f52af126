use Rattle.std.proofs.Common.{◌∙◌}
use Rattle.s2_scramble.proofs.Quarters.{rotated-back}
use Rattle.s2_scramble.proofs.rotate.rotated_back.Goals as goal

pub returns : goal.returns
returns c = c.rotated.ensures ∙ rotated-back c.args.quarters c.args.symbol c.requires
