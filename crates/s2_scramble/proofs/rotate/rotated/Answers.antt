use Rattle.std.proofs.Common.{rules, w16}
use Rattle.std.proofs.lemmas.Int.{to_z-of_z}
use Rattle.s2_scramble.proofs.Quarters.{rotated_is}
use Rattle.s2_scramble.proofs.rotate.rotated.Goals as goal
use mir.Val.{SFits}

pub returns : goal.returns
returns c =
    let fits_i : SFits w16 c.args.symbol.i = search rules in
    let fits_q : SFits w16 c.args.symbol.q = search rules in
    let fits_first : SFits w16 c.chosen.result = search rules in
    let fits_second : SFits w16 c.chosen-2.result = search rules in
    let fits_left : SFits w16 c.signed.result = search rules in
    let fits_right : SFits w16 c.signed-2.result = search rules in
    let first = simp to_z-of_z at c.chosen.ensures in
    let left = simp to_z-of_z at c.signed.ensures in
    let second = simp to_z-of_z at c.chosen-2.ensures in
    let right = simp to_z-of_z at c.signed-2.ensures in
    simp to_z-of_z (rotated_is c.args.quarters c.args.symbol c.chosen.result c.chosen-2.result c.signed.result c.signed-2.result c.requires first left second right)
