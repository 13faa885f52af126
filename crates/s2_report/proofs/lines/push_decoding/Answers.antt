use Rattle.std.proofs.Common.{◌++◌, codes, decimal, refl}
use Rattle.s2_report.proofs.ReadBack.{append_line, known_line, more_line}
use Rattle.s2_report.specs.ReportLines.{decoding_words}
use Rattle.s2_report.proofs.lines.push_decoding.Goals as goal

pub returns-clause-line : goal.returns-clause-line
unfolding decoding_words
returns-clause-line c =
    let f = c.args.figures in
    more_line (codes " header " ++ decimal f.header ++ codes " changed " ++ decimal f.changed.sum) (codes " rounds ") (decimal f.rounds)
    (more_line (codes " header " ++ decimal f.header) (codes " changed ") (decimal f.changed.sum)
    (append_line (codes " header ") (decimal f.header) (known_line (codes " header ") refl) c.push_small.ensures.line) refl c.push_count.ensures.line) refl c.push_small-2.ensures.line
