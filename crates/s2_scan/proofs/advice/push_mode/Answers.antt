use Rattle.std.proofs.Common.{◌≡◌, ◌++◌, [], ℕ, List, OnOk, ap, subst, ◌∙◌}
use Rattle.std.specs.Prelude.{Bool, codes, if◌then◌else◌}
use Rattle.s2_scan.specs.Lines.{mode_words}
use Rattle.s2_scan.proofs.Pieces.{pieces_3}
use Rattle.s2_scan.proofs.advice.push_mode.Goals as goal

pub returns : goal.returns
unfolding mode_words
returns c =
    let short = c.choose.ensures ∙ ap (λ (b : Bool). if b then codes " --short" else []) c.is_short.ensures in
    let pilots = c.choose-2.ensures ∙ ap (λ (b : Bool). if b then codes " --pilots" else []) c.has_pilots.ensures in
    pieces_3 c.push-3.result _ _ _ _ _ _ _ (c.in_ok-push.ensures ∙ ap (λ l. c.args.text.now.items ++ l) c.name_at.ensures)
    (c.in_ok-push-2.ensures ∙ ap (λ l. c.push.new.text.items ++ l) short)
    (subst (λ (l : List ℕ). OnOk c.push-3.result (c.push-3.new.text.items ≡ c.push-2.new.text.items ++ l)) pilots c.push-3.ensures)
