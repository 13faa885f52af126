use Rattle.std.proofs.Common.{◌≡◌, ◌++◌, ℕ, List, OnOk, ap, subst, ◌∙◌}
use Rattle.std.specs.Prelude.{codes, decimal}
use Rattle.s2_scan.specs.Strength.{strength_line}
use Rattle.s2_scan.proofs.Pieces.{pieces_4}
use Rattle.s2_scan.proofs.strength.push_strength.Goals as goal

pub returns : goal.returns
unfolding strength_line
returns c =
    let count = c.in_ok-push_number.ensures ∙ ap (λ n. c.args.text.now.items ++ (codes "symbols " ++ decimal n)) c.symbols_in.ensures in
    let rms = c.in_ok-push_number-2.ensures ∙ ap (λ n. c.push_number.new.text.items ++ (codes " rms " ++ decimal n)) c.rms_of.ensures in
    let clipped = c.in_ok-push_number-3.ensures ∙ ap (λ n. c.push_number-2.new.text.items ++ (codes " clipped " ++ decimal n)) c.clipped_in.ensures in
    let order = subst (λ (l : List ℕ). OnOk c.push.result (c.push.new.text.items ≡ c.push_number-3.new.text.items ++ l)) c.choose.ensures c.push.ensures in
    pieces_4 c.push.result _ _ _ _ _ _ _ _ _ count rms clipped order
