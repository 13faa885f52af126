use Rattle.std.proofs.Common.{◌≡◌, ◌≤◌, ◌++◌, ◌∙◌, length, arith, sym, ap, subst, append_assoc, codes, decimal}
use Rattle.s2_report.specs.Entries.{IsReadAs}
use Rattle.s2_report.specs.declared.entry.Entry.TheVariants as entries
use Rattle.s2_report.specs.ReportLines.{cut_line}
use Rattle.s2_report.proofs.ReadBack.{cut_back}
use Rattle.s2_report.proofs.Rooms.{pushed}
use Rattle.s2_report.proofs.lines.cut_line.Goals as goal

pub returns-clause-read_back : goal.returns-clause-read_back
unfolding cut_line
returns-clause-read_back c =
    let first = c.push_count.ensures.bytes ∙ ap (λ l. l ++ (codes "cut at " ++ decimal c.args.at)) c.new-line.ensures in
    let both = c.push_count-2.ensures.bytes ∙ sym (append_assoc c.push_count.new.line (codes " symbols ") (decimal c.args.symbols)) ∙ ap (λ l. l ++ codes " symbols " ++ decimal c.args.symbols) first in
    let is : c.push.new.self ≡ cut_line c.args.at c.args.symbols = c.push.ensures ∙ ap (λ l. l ++ codes "\n") both in
    let short : length c.push.new.self ≤ 640 = omega (arith, pushed c.push_count-2.new.line c.push.new.self (codes "\n") c.push.ensures, c.push_count-2.ensures.room, c.push_count.ensures.room, ap length c.new-line.ensures) in
    subst (λ l. IsReadAs l entries.Other) (sym is) (cut_back c.args.at c.args.symbols c.push_count.ensures.line c.push_count-2.ensures.line (subst (λ l. length l ≤ 640) is short))
