use Rattle.std.proofs.Common.{arith, ap, subst, sym, ◌<◌, ◌∙◌, ◌*◌, ◌^◌, ◌%◌, bit_xor}
use Rattle.s2_field.proofs.ShiftFacts.{shifted-14, iterate-14-below}
use Rattle.s2_field.proofs.gf14.arithmetic.shift_by.Goals as goal

pub returns-clause-value : goal.returns-clause-value
returns-clause-value c =
    ap (bit_xor (c.args.a * 2 ^ c.args.exponent % 65536 % 16384)) c.fold.ensures
    ∙ shifted-14 c.args.exponent c.args.a (omega arith) (omega arith)

pub returns-clause-below : goal.returns-clause-below
returns-clause-below c =
    subst (λ x. x < 2 ^ 14) (sym (returns-clause-value c)) (iterate-14-below c.args.exponent c.args.a c.requires.a_below)
