use Rattle.std.proofs.Common.{◌≡◌, ◌≤◌, ℤ, pos, ◌*ℤ◌, unsigned_abs, to_z, of_z, w64, arith}
use Rattle.std.proofs.lemmas.Int.{ints}
use Rattle.s2_check.proofs.Products.{product_is, product_small}
use Rattle.s2_check.proofs.rests.scaled.Goals as goal

pub returns-clause-is : goal.returns-clause-is
returns-clause-is c =
    product_is c.from.result c.from-2.result c.args.scale c.args.value c.from.ensures (omega (arith, ints, c.from-2.ensures)) (omega arith) (omega (arith, ints))

pub returns-clause-low : goal.returns-clause-low
returns-clause-low c =
    let size : unsigned_abs c.args.value ≤ 32768 = omega (arith, ints) in
    omega (arith, ints, returns-clause-is c, product_small c.args.scale 32768 c.args.value (omega arith) size)

pub returns-clause-high : goal.returns-clause-high
returns-clause-high c =
    let size : unsigned_abs c.args.value ≤ 32768 = omega (arith, ints) in
    omega (arith, ints, returns-clause-is c, product_small c.args.scale 32768 c.args.value (omega arith) size)
