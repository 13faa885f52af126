use Rattle.std.proofs.Common.{ap, map, ◌∙◌}
use Rattle.s2_scramble.specs.Rotations.{rotated_back}
use Rattle.s2_plframe.specs.Turns.{derotated}
use Rattle.s2_plframe.proofs.receive.turns.derotate.Goals as goal

pub returns-clause-is : goal.returns-clause-is
unfolding derotated
returns-clause-is c = c.rotate_back.ensures ∙ ap (λ t. map (rotated_back t) c.args.frame.now) c.turn_of-turn.ensures.is
