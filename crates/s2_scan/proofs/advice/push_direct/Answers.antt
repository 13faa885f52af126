use Rattle.s2_scan.specs.Lines.{direct_line}
use Rattle.s2_scan.proofs.Pieces.{pieces_3}
use Rattle.s2_scan.proofs.advice.push_direct.Goals as goal

pub returns : goal.returns
unfolding direct_line
returns c = pieces_3 c.push.result _ _ _ _ _ _ _ c.in_ok-push_demod.ensures c.in_ok-push_name.ensures c.push.ensures
