use Rattle.std.proofs.Common.{◌++◌, ap, ◌∙◌}
use Rattle.s2_scan.specs.Lines.{gain_words, source_words}
use Rattle.s2_scan.proofs.Pieces.{pieces_3}
use Rattle.s2_scan.proofs.advice.push_source.Goals as goal

pub returns : goal.returns
unfolding source_words
returns c =
    pieces_3 c.push_word.result _ _ _ _ _ _ _ c.in_ok-push_convert.ensures
    (c.in_ok-push_gain.ensures ∙ ap (λ n. c.push_convert.new.text.items ++ gain_words n) c.gain_of.ensures) c.push_word.ensures
