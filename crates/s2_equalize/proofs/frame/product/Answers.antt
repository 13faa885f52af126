use Rattle.s2_equalize.proofs.Components.{part_product, part_product_most}
use Rattle.s2_equalize.proofs.frame.product.Goals as goal

pub returns-clause-is : goal.returns-clause-is
returns-clause-is c = part_product c.from.result c.args.component c.args.part c.from.ensures c.ranges.component c.requires

pub returns-clause-most : goal.returns-clause-most
returns-clause-most c = part_product_most c.from.result c.args.component c.args.part c.from.ensures c.ranges.component c.requires
