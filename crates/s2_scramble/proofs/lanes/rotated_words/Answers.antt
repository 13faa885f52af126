use Rattle.std.proofs.Common.{◌∙◌}
use Rattle.s2_scramble.proofs.LaneLemmas.{four_rotated, rotated_lanes}
use Rattle.s2_scramble.proofs.lanes.rotated_words.Goals as goal

pub returns : goal.returns
returns c k l m n a b c' d lk ll lm ln fa fb fc fd qs ws = (λ t. rotated_lanes (qs t) (ws t)) ∙ four_rotated k l m n a b c' d lk ll lm ln fa fb fc fd
