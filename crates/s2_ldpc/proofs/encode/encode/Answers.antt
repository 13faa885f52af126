use Rattle.std.proofs.Common.{◌≡◌, length, ◌∙◌, arith}
use Rattle.s2_mode.specs.Shape.{check_count}
use Rattle.s2_ldpc.proofs.Parts.{written}
use Rattle.s2_ldpc.proofs.encode.encode.Goals as goal

pub parities_into-requires-clause-parities : goal.parities_into-requires-clause-parities
parities_into-requires-clause-parities c = omega (arith, c.split_at_mut-front.ensures.back_len, c.requires.codeword, c.requires.info)

pub returns : goal.returns
returns c =
    let r = c.args.matrix.now in
    let back : length c.split_at_mut-front.result.1.now ≡ check_count r.shape = omega (arith, c.split_at_mut-front.ensures.back_len, c.requires.codeword, c.requires.info) in
    written r c.args.info.now c.copy_from_slice.new.self c.parities_into.new.parities c.requires.info c.copy_from_slice.ensures.after (c.parities_into.ensures.long ∙ back) c.parities_into.ensures.are
