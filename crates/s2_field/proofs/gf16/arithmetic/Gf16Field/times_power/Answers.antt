use Rattle.s2_field.specs.Gf16.{raised}
use Rattle.s2_field.proofs.gf16.arithmetic.Gf16Field.times_power.Goals as goal

pub returns : goal.returns
returns c = raised c.args.exponent c.args.self _ c.raise.ensures
