use Rattle.std.proofs.lemmas.Nat.{xor_lt}
use Rattle.s2_field.proofs.gf14.arithmetic.sum_of_values.Goals as goal

pub returns-clause-below : goal.returns-clause-below
returns-clause-below c = xor_lt 14 c.args.a c.args.b c.requires.a_below c.requires.b_below
