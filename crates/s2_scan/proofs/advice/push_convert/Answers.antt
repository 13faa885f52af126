use Rattle.std.proofs.Common.{◌++◌, [], ap, ◌∙◌}
use Rattle.std.specs.Prelude.{Bool, codes, if◌then◌else◌}
use Rattle.s2_scan.specs.Lines.{convert_words}
use Rattle.s2_scan.proofs.Pieces.{pieces_3}
use Rattle.s2_scan.proofs.advice.push_convert.Goals as goal

pub returns : goal.returns
unfolding convert_words
returns c =
    let conjugate = c.choose-2.ensures ∙ ap (λ (b : Bool). if b then codes " --conjugate" else []) c.is_conjugate.ensures in
    pieces_3 c.push_turn.result _ _ _ _ _ _ _ (c.in_ok-push.ensures ∙ ap (λ l. c.args.text.now.items ++ l) c.choose.ensures) (c.in_ok-push-2.ensures ∙ ap (λ l. c.push.new.text.items ++ l) conjugate) c.push_turn.ensures
