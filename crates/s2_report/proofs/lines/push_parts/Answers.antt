use Rattle.std.proofs.Common.{◌++◌, codes, refl, rules}
use Rattle.std.specs.Fmt.{signed_decimal}
use Rattle.s2_report.specs.Entries.{IsLine}
use Rattle.s2_report.proofs.ReadBack.{append_line, known_line, more_line}
use Rattle.s2_report.specs.ReportLines.{parts_words}
use Rattle.s2_report.proofs.lines.push_parts.Goals as goal

pub returns-clause-line : goal.returns-clause-line
unfolding parts_words
returns-clause-line c =
    let k = c.args.number in
    let along : IsLine (signed_decimal k.re) = search rules in
    let across : IsLine (signed_decimal k.im) = search rules in
    more_line (codes " along " ++ signed_decimal k.re) (codes " across ") (signed_decimal k.im)
    (append_line (codes " along ") (signed_decimal k.re) (known_line (codes " along ") refl) along) refl across
