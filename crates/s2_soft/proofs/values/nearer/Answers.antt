use Rattle.std.proofs.Common.{rules, ◌-ℤ◌, w16, w32, ◌∙◌}
use Rattle.std.proofs.lemmas.Int.{to_z-of_z}
use Rattle.s2_soft.proofs.Sizes.{difference_fits}
use Rattle.s2_soft.proofs.values.nearer.Goals as goal
use mir.Val.{SFits}

pub returns : goal.returns
returns c =
    let zero : SFits w32 c.args.zero = c.ranges.zero in
    let one : SFits w32 c.args.one = c.ranges.one in
    let difference : SFits w32 (c.args.zero -ℤ c.args.one) = difference_fits _ _ c.requires.zero c.requires.one in
    let fits : SFits w16 c.quantized.result = search rules in
    let is = simp to_z-of_z at c.quantized.ensures in
    to_z-of_z w16 c.quantized.result fits ∙ is
