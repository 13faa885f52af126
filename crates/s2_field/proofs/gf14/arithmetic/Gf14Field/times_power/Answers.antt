use Rattle.s2_field.specs.Gf14.{raised}
use Rattle.s2_field.proofs.gf14.arithmetic.Gf14Field.times_power.Goals as goal

pub returns : goal.returns
returns c = raised c.args.exponent c.args.self _ c.raise.ensures.value
