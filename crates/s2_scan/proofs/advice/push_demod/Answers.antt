use Rattle.s2_scan.specs.Lines.{demod_words}
use Rattle.s2_scan.proofs.Pieces.{pieces_4}
use Rattle.s2_scan.proofs.advice.push_demod.Goals as goal

pub returns : goal.returns
unfolding demod_words
returns c = pieces_4 c.push-2.result _ _ _ _ _ _ _ _ _ c.in_ok-push.ensures c.in_ok-push_mode.ensures c.in_ok-push_option.ensures c.push-2.ensures
