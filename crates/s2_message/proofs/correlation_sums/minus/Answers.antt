use Rattle.std.proofs.Common.{◌-◌, arith}
use Rattle.s2_message.proofs.Products.{rest_held}
use Rattle.s2_message.proofs.correlation_sums.minus.Goals as goal

pub returns : goal.returns
returns c =
    let all = c.requires.all in
    let part = c.requires.part in
    let along = rest_held c.args.all.along c.args.part.along (omega (arith, all.along)) (omega (arith, part.along)) in
    let across = rest_held c.args.all.across c.args.part.across (omega (arith, all.across)) (omega (arith, part.across)) in
    λ t. record { power = c.args.all.power - c.args.part.power; along = along t; across = across t }
