use Rattle.std.proofs.Common.{arith}
use Rattle.s2_bch.proofs.RegisterFacts.{xor_blocks}
use Rattle.s2_bch.proofs.register.Register.plus.Goals as goal

pub returns : goal.returns
returns c =
    let a = c.args.self in
    let b = c.args.other in
    xor_blocks a.high a.middle a.low b.high b.middle b.low (omega arith) (omega arith) (omega arith) (omega arith)
