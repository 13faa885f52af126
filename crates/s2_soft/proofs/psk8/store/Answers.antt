use Rattle.std.proofs.Common.{rules, ◌≡◌, ◌∙◌, pos, w16}
use Rattle.std.specs.Int.{cast_signed, cast_unsigned}
use Rattle.std.proofs.lemmas.Int.{to_z-of_z}
use Rattle.std.proofs.lemmas.Simd.{get_or-put_chunk_at, get_or-put_chunk_below}
use Rattle.s2_bits.specs.Lanes.{lane}
use Rattle.s2_bits.specs.Lanes16.{signed16}
use Rattle.s2_soft.proofs.FourWords.{four_values}
use Rattle.s2_soft.proofs.psk8.store.Goals as goal
use mir.Val.{SFits}

pub returns-clause-here : goal.returns-clause-here
returns-clause-here c = λ k lt.
    let values = c.args.values in
    let at = c.args.at in
    let fits_0 : SFits w16 c.cast_signed.result = search rules in
    let fits_1 : SFits w16 c.cast_signed-2.result = search rules in
    let fits_2 : SFits w16 c.cast_signed-3.result = search rules in
    let fits_3 : SFits w16 c.cast_signed-4.result = search rules in
    let value_0 : cast_signed w16 (cast_unsigned w16 c.cast_signed.result) ≡ signed16 (lane values 0) = to_z-of_z w16 _ fits_0 ∙ c.cast_signed.ensures in
    let value_1 : cast_signed w16 (cast_unsigned w16 c.cast_signed-2.result) ≡ signed16 (lane values 1) = to_z-of_z w16 _ fits_1 ∙ c.cast_signed-2.ensures in
    let value_2 : cast_signed w16 (cast_unsigned w16 c.cast_signed-3.result) ≡ signed16 (lane values 2) = to_z-of_z w16 _ fits_2 ∙ c.cast_signed-3.ensures in
    let value_3 : cast_signed w16 (cast_unsigned w16 c.cast_signed-4.result) ≡ signed16 (lane values 3) = to_z-of_z w16 _ fits_3 ∙ c.cast_signed-4.ensures in
    get_or-put_chunk_at at c.args.soft.now _ k (pos 0) lt c.requires
    ∙ four_values (λ k. signed16 (lane values k)) _ _ _ _ value_0 value_1 value_2 value_3 k lt

pub returns-clause-before : goal.returns-clause-before
returns-clause-before c = λ b below. get_or-put_chunk_below c.args.at c.args.soft.now _ b (pos 0) below
