use Rattle.std.proofs.Common.{◌∙◌}
use Rattle.s2_scan.proofs.Runs.{says_as}
use Rattle.s2_scan.proofs.command.report_of.Goals as goal

pub returns-in-Ok-clause-is : goal.returns-in-Ok-clause-is
returns-in-Ok-clause-is g c =
    let seen = c.in_ok-seen.ensures.seen in
    let report = c.in-Ok.report in
    let same = c.deref.ensures.value ∙ seen.2 in
    let begun = c.deref-2.ensures.value ∙ seen.3 in
    (seen.0, seen.1, says_as c.args.name.now _ _ _ _ report.exit report.text.items same begun c.in-Ok.ensures)
