use Rattle.std.proofs.Common.{rules, ◌<◌, ◌+◌, ◌*◌, ◌∙◌, ap, sym, length, arith, w16}
use Rattle.std.proofs.lemmas.Int.{to_z-of_z}
use Rattle.s2_mode.specs.Symbols.{symbol_at}
use Rattle.s2_soft.specs.Soft.{quantized}
use Rattle.s2_soft.specs.Closed.{component_difference}
use Rattle.s2_soft.specs.Lanes.{component_at}
use Rattle.s2_soft.proofs.Components.{is_i, is_q}
use Rattle.s2_soft.proofs.Writes.{set_pair}
use Rattle.s2_soft.proofs.soft.qpsk_into.Goals as goal
use mir.Val.{SFits}

pub loop-s-preserved : goal.loop-s-preserved
loop-s-preserved c =
    let payload = c.args.payload.now in
    let s = c.loop-s.s in
    let fits_first : SFits w16 c.component_value.result = search rules in
    let fits_second : SFits w16 c.component_value-in-loop-s.result = search rules in
    let fits_i : SFits w16 (symbol_at payload s).i = search rules in
    let fits_q : SFits w16 (symbol_at payload s).q = search rules in
    let room : 2 * s + 1 < length c.loop-s.soft = omega arith in
    set_pair c.loop-s.soft s _ _ (λ b. quantized c.args.divisor (component_difference (component_at payload b)))
    room c.loop-s.invariant
    (to_z-of_z w16 _ fits_first ∙ (c.component_value.ensures ∙ ap (λ v. quantized c.args.divisor (component_difference v)) (to_z-of_z w16 _ fits_i ∙ sym (is_i payload (2 * s) s (omega arith)))))
    (to_z-of_z w16 _ fits_second ∙ (c.component_value-in-loop-s.ensures ∙ ap (λ v. quantized c.args.divisor (component_difference v)) (to_z-of_z w16 _ fits_q ∙ sym (is_q payload (2 * s + 1) s (omega arith)))))
