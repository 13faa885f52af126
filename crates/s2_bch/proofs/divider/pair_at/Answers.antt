use Rattle.std.proofs.Common.{◌+◌, ◌∙◌, arith}
use Rattle.s2_bch.proofs.MessageFacts.{byte-number, number_of-joined}
use Rattle.s2_bch.proofs.divider.pair_at.Goals as goal

pub returns : goal.returns
returns c =
    let bits = c.args.bits.now in
    let at = c.args.at in
    let first = c.byte_at.ensures ∙ byte-number bits at (omega arith) in
    let second = c.byte_at-2.ensures ∙ byte-number bits (at + 8) (omega arith) in
    omega (arith, number_of-joined 8 bits at (omega arith), first, second)
