use Rattle.std.proofs.Common.{ap, ◌∙◌}
use Rattle.s2_bits.specs.Bits.{number}
use Rattle.s2_plframe.specs.Search.{decision}
use Rattle.s2_plframe.proofs.Windows.{held_last, held_next}
use Rattle.s2_plframe.proofs.receive.registers.Signs.with.Goals as goal

pub returns-clause-newest : goal.returns-clause-newest
returns-clause-newest c =
    held_last c.pushed-odd.result c.pushed-even.result (decision c.args.symbol)
    (c.pushed-odd.ensures.newest ∙ ap number c.says_odd.ensures) (c.pushed-even.ensures.newest ∙ ap number c.says_even.ensures)

pub returns-clause-others : goal.returns-clause-others
returns-clause-others c = λ j lt. held_next c.args.self.odd c.args.self.even c.pushed-odd.result c.pushed-even.result j c.pushed-odd.ensures.others c.pushed-even.ensures.others lt
