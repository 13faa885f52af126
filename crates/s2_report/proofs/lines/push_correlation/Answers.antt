use Rattle.std.proofs.Common.{◌++◌, codes, decimal, refl, rules}
use Rattle.std.specs.Fmt.{signed_decimal}
use Rattle.s2_report.specs.Entries.{IsLine}
use Rattle.s2_report.proofs.ReadBack.{append_line, known_line, more_line}
use Rattle.s2_report.specs.ReportLines.{correlation_words}
use Rattle.s2_report.proofs.lines.push_correlation.Goals as goal

pub returns-clause-line : goal.returns-clause-line
unfolding correlation_words
returns-clause-line c =
    let k = c.args.correlation in
    let along : IsLine (signed_decimal k.along) = search rules in
    let across : IsLine (signed_decimal k.across) = search rules in
    more_line (codes " power " ++ decimal k.power ++ codes " along " ++ signed_decimal k.along) (codes " across ") (signed_decimal k.across)
    (more_line (codes " power " ++ decimal k.power) (codes " along ") (signed_decimal k.along)
    (append_line (codes " power ") (decimal k.power) (known_line (codes " power ") refl) c.push_count.ensures.line) refl along) refl across
