use Rattle.s2_equalize.specs.Complex.{root}
use Rattle.s2_equalize.proofs.Quotients.{one_root, root_is}
use Rattle.s2_equalize.proofs.carrier.root.Goals as goal

pub returns-clause-is : goal.returns-clause-is
returns-clause-is c =
    one_root c.args.n c.isqrt.result (root c.args.n)
    (record { below = c.isqrt.ensures.square_le; above = c.isqrt.ensures.next_square_gt })
    (root_is c.args.n)
