use Rattle.std.proofs.Common.{◌≤◌, bit_xor, count_ones, arith}
use Rattle.std.proofs.lemmas.Nat.{xor_lt, ones-le}
use Rattle.s2_plframe.proofs.receive.rotations.is_between.Goals as goal

pub overflow_add-result : goal.overflow_add-result
overflow_add-result c =
    let few : count_ones (bit_xor c.args.header c.args.window) ≤ 64 = ones-le 64 (bit_xor c.args.header c.args.window) (xor_lt 64 c.args.header c.args.window (omega arith) (omega arith)) in
    omega (arith, few)
