use Rattle.s2_scan.specs.Strength.{nothing_text}
use Rattle.s2_scan.proofs.Pieces.{pieces_4}
use Rattle.s2_scan.proofs.strength.push_nothing.Goals as goal

pub returns : goal.returns
unfolding nothing_text
returns c = pieces_4 c.push-2.result _ _ _ _ _ _ _ _ _ c.in_ok-push.ensures c.in_ok-push_strength.ensures c.in_ok-push_strength-2.ensures c.push-2.ensures
