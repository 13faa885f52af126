use Rattle.std.proofs.Common.{arith, ap, ◌∙◌, ◌*◌, ◌^◌, ◌%◌, bit_xor}
use Rattle.s2_field.proofs.ShiftFacts.{shifted-16}
use Rattle.s2_field.proofs.gf16.arithmetic.shift_by.Goals as goal

pub returns : goal.returns
returns c =
    ap (bit_xor (c.args.a * 2 ^ c.args.exponent % 65536)) c.fold.ensures
    ∙ shifted-16 c.args.exponent c.args.a (omega arith) (omega arith)
