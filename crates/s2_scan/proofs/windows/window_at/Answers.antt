use Rattle.std.proofs.Common.{◌≡◌, ◌+◌, ◌-◌, ◌*◌, take, drop, ap, arith}
use Rattle.s2_scan.proofs.windows.window_at.Goals as goal

pub returns : goal.returns
returns c =
    let count : 4 * c.args.position + 360 - 4 * c.args.position ≡ 360 = omega arith in
    ap (λ n. take n (drop (4 * c.args.position) c.args.bytes.now)) count
