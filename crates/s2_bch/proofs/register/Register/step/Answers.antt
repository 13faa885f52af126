use Rattle.std.proofs.Common.{◌∙◌, sym, ap}
use Rattle.s2_bits.specs.Bits.{number}
use Rattle.s2_bch.specs.Registers.{value_of}
use Rattle.s2_bch.proofs.RegisterFacts.{step_zero}
use Rattle.s2_bch.proofs.register.Register.step.Goals as goal

pub returns-else-top : goal.returns-else-top
returns-else-top c =
    c.doubled-else-top.ensures
    ∙ step_zero (value_of c.args.tail) (value_of c.args.self) (sym c.top.ensures ∙ ap number c.if-top.false)
