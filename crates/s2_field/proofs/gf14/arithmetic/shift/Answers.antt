use Rattle.std.proofs.Common.{◌*◌, ◌/◌, ◌%◌, arith}
use Rattle.std.proofs.lemmas.Nat.{xor_lt}
use Rattle.s2_field.proofs.gf14.arithmetic.shift.Goals as goal

pub returns-clause-below : goal.returns-clause-below
returns-clause-below c =
    xor_lt 14 (c.args.a * 2 % 65536 % 16384) (c.args.a / 8192 % 2 * 43) (omega arith) (omega arith)
