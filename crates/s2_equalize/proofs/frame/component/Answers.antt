use Rattle.std.proofs.Common.{◌≡◌, ◌∙◌, ap, to_z, of_z, w16, w32, arith}
use Rattle.std.proofs.lemmas.Int.{ints, fits_signed_from_abs}
use Rattle.s2_equalize.specs.Equalizer.{limited}
use Rattle.s2_equalize.proofs.Components.{component_is, half_most}
use Rattle.s2_equalize.proofs.frame.component.Goals as goal

pub overflow_add-product : goal.overflow_add-product
overflow_add-product c =
    let half = half_most c.args.digits c.requires.few in
    let size = c.requires.size in
    fits_signed_from_abs w32 _ (omega (arith, ints, half, size))

pub returns : goal.returns
returns c =
    let least = c.clamp.ensures.lower_bound in
    let most = c.clamp.ensures.upper_bound in
    let held : to_z w16 (of_z w16 (to_z w32 (of_z w32 c.clamp.result))) ≡ c.clamp.result = omega (arith, ints, least, most) in
    held ∙ (c.clamp.ensures.value ∙ ap limited (component_is c.args.product c.args.digits c.requires.some c.requires.few c.requires.size))
