use Rattle.std.proofs.Common.{arith}
use Rattle.s2_records.proofs.LabelLemmas.{most_bits}
use Rattle.s2_records.proofs.labels.two_from.Goals as goal

pub overflow_add-i : goal.overflow_add-i
overflow_add-i c = omega (arith, c.requires.within, most_bits c.args.mode)
