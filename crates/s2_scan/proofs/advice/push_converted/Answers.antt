use Rattle.s2_scan.specs.Lines.{converted_line}
use Rattle.s2_scan.proofs.Pieces.{pieces_3}
use Rattle.s2_scan.proofs.advice.push_converted.Goals as goal

pub returns : goal.returns
unfolding converted_line
returns c = pieces_3 c.push.result _ _ _ _ _ _ _ c.in_ok-push_source.ensures c.in_ok-push_demod.ensures c.push.ensures
