use Rattle.std.proofs.Common.{◌≡◌, ◌++◌, ap, ap₂, ◌∙◌}
use Rattle.s2_report.specs.ReportLines.{end_line}
use Rattle.s2_records.specs.Counting.{cut_words, totals_of}
use Rattle.s2_records.proofs.ReportLemmas.{prints_both, prints_as}
use Rattle.s2_records.proofs.join_report.print_report.Goals as goal

pub returns-clause-prints : goal.returns-clause-prints
returns-clause-prints g c =
    let one : c.as_bytes.result.now ≡ cut_words c.args.mode c.args.summary = c.as_bytes.ensures ∙ c.cut_words.ensures in
    let two : c.as_bytes-2.result.now ≡ end_line (totals_of c.args.summary.counts) = c.as_bytes-2.ensures ∙ c.end_line.ensures.is ∙ ap end_line c.totals_of.ensures in
    prints_as _ _ _ _ c.print-2.result _ _ c.exit_by-exit.ensures (ap₂ (λ xs ys. xs ++ ys) one two)
    (prints_both _ _ _ c.print-2.result _ _ _ c.in_ok-print.ensures.prints.1 c.print-2.ensures.prints)
