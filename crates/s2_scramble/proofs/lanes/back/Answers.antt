use Rattle.std.proofs.Common.{◌∙◌}
use Rattle.s2_scramble.proofs.LaneLemmas.{back-twice, back_lanes}
use Rattle.s2_scramble.proofs.lanes.back.Goals as goal

pub returns : goal.returns
returns c k l m n lk ll lm ln qs = (λ t. back_lanes (qs t)) ∙ back-twice k l m n lk ll lm ln
