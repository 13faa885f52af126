use Rattle.std.proofs.Common.{◌≡◌, SFits, w16, rules, arith, length, pos, refl, sym, ap, ◌∙◌}
use Rattle.std.specs.Int.{cast_signed}
use Rattle.std.proofs.lemmas.Int.{to_z-of_z}
use Rattle.std.proofs.lemmas.List.{ext_get_or}
use Rattle.s2_check.specs.Cost.{value_at}
use Rattle.s2_replay.proofs.ValueLemmas.{same_more}
use Rattle.s2_replay.proofs.certificates.has_values.Goals as goal

pub places-init : goal.places-init
places-init c = λ k h. absurd (omega (arith, h))

pub places-preserved : goal.places-preserved
places-preserved c =
    let i = c.places.i in
    let left : SFits w16 c.soft.result = search rules in
    let right : SFits w16 (value_at c.args.soft.now i) = search rules in
    let same : c.soft.result ≡ value_at c.args.soft.now i = sym (to_z-of_z w16 _ left) ∙ ap (cast_signed w16) c.if-soft-i.false ∙ to_z-of_z w16 _ right in
    same_more (pos 0) c.args.view.now.soft c.args.soft.now i c.places.invariant (sym c.soft.ensures ∙ same)

pub returns : goal.returns
returns c =
    let long : length c.args.view.now.soft ≡ length c.args.soft.now = c.shape-shape.ensures.valid.soft_long ∙ sym c.requires in
    (λ yes'. ext_get_or (pos 0) _ _ long (λ k h. c.places.invariant k (omega (arith, h, long, c.places-test.false))), λ same. refl)
