use Rattle.std.proofs.Common.{◌+◌, ◌*◌, ◌%◌, ap}
use Rattle.s2_scan.proofs.passes.header_quarters.Goals as goal

pub returns : goal.returns
returns c =
    let header = c.requires.headers c.args.header c.requires.header in
    ap (λ b. c.args.k % 2 + 2 * b) (header.bits c.args.k c.requires.k)
