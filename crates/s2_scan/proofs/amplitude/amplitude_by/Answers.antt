use Rattle.std.proofs.Common.{◌<◌, ◌*◌, ◌^◌, arith}
use Rattle.std.proofs.Math.Nat.{div-lt_iff_lt-mul}
use Rattle.s2_scan.proofs.amplitude.amplitude_by.Goals as goal

pub rounded_root-requires : goal.rounded_root-requires
rounded_root-requires c =
    let less : c.args.energy < 2 ^ 125 * c.args.symbols = omega arith in
    (div-lt_iff_lt-mul (omega arith)).1 less
