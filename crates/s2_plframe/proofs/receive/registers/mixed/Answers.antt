use Rattle.s2_plframe.proofs.HeaderBits.{mixed_small, mixed_bits}
use Rattle.s2_plframe.proofs.receive.registers.mixed.Goals as goal

pub returns-clause-small : goal.returns-clause-small
returns-clause-small c = mixed_small c.args.odd c.args.even

pub returns-clause-bits : goal.returns-clause-bits
returns-clause-bits c = mixed_bits c.args.odd c.args.even
