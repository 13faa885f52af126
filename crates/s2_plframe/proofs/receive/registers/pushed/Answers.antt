use Rattle.std.proofs.Common.{◌≤◌, arith}
use Rattle.s2_plframe.proofs.HeaderBits.{others, byte_small}
use Rattle.s2_plframe.proofs.receive.registers.pushed.Goals as goal

pub returns-clause-others : goal.returns-clause-others
returns-clause-others c = λ j lt.
    let small : c.from.result ≤ 1 = omega (arith, byte_small c.args.bit) in
    others c.args.register c.from.result j small lt
