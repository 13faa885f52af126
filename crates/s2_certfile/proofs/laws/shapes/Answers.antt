use Rattle.s2_certfile.proofs.ShapeTests.{shape_lem}
use Rattle.s2_certfile.proofs.laws.shapes.Goals as goal

pub returns : goal.returns
returns c = shape_lem
