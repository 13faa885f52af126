use Rattle.std.proofs.Common.{rules}
use Rattle.s2_names.proofs.command.modes_command.Goals as goal

pub returns-clause-run : goal.returns-clause-run
returns-clause-run g c =
    (c.print_modes-ended.result, search rules, search rules, search rules, search rules)
