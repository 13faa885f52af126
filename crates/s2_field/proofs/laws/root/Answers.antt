use Rattle.s2_field.specs.Gf16 as gf16
use Rattle.s2_field.specs.Gf14 as gf14
use Rattle.s2_field.proofs.laws.root.Goals as goal

pub returns : goal.returns
returns c = record { normal = gf16.root; short = gf14.root }
