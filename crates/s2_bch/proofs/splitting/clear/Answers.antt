use Rattle.std.proofs.Common.{arith}
use Rattle.s2_bch.proofs.SplittingFacts.{eval_zeros}
use Rattle.s2_bch.proofs.splitting.clear.Goals as goal

pub returns : goal.returns
returns g c y =
    let f = g.F.Field in
    eval_zeros f.field g.met.F.Field.laws c.loop-i.polynomial y (λ k hk. c.loop-i.invariant k (omega arith))
