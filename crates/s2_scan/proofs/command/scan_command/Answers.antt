use Rattle.std.proofs.Common.{rules}
use Rattle.s2_scan.proofs.command.scan_command.Goals as goal

pub returns-clause-run : goal.returns-clause-run
returns-clause-run g c =
    (c.print_scan-ended.result, search rules, search rules, search rules, search rules)
