use Rattle.s2_field.specs.Gf16 as gf16
use Rattle.s2_field.specs.Gf14 as gf14
use Rattle.s2_field.proofs.laws.order.Goals as goal

pub returns : goal.returns
returns c = record { normal = gf16.order; short = gf14.order }
