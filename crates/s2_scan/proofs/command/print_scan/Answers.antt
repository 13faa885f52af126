use Rattle.std.proofs.Common.{ℕ, List, refl, subst}
use Rattle.std.proofs.lemmas.Result.{err_from_is_err_and}
use Rattle.s2_io.specs.Exits.{Prints}
use Rattle.s2_io.proofs.CommandLemmas.{printed_text, refused}
use Rattle.s2_scan.specs.Scanning.{IsRecording, SaysScan}
use Rattle.s2_scan.proofs.Runs.{may_answer}
use Rattle.s2_scan.proofs.command.print_scan.Goals as goal

pub returns-in_err-report-clause-run : goal.returns-in_err-report-clause-run
returns-in_err-report-clause-run g c =
    let known = g.R.CountedRead.remaining c.args.symbols.now in
    let f = c.in_err-report.field-0.0 in
    let out = g.O.CountedWrite.contents c.args.out.now in
    let p = err_from_is_err_and c.from_residual.result c.from_residual.ensures.1 in
    rw (p.1, p.2) (refused (SaysScan c.args.name.now) (IsRecording known) f out out (may_answer c.args.name.now known f c.in_err-report.ensures.faults) refl)

pub returns-clause-run : goal.returns-clause-run
returns-clause-run g c =
    let known = g.R.CountedRead.remaining c.args.symbols.now in
    let report = c.in_ok-report.report in
    let is = c.in_ok-report.ensures.is in
    let old = g.O.CountedWrite.contents c.args.out.now in
    let new = g.O.CountedWrite.contents c.print.new.out in
    printed_text (SaysScan c.args.name.now) (IsRecording known) is.0 report.exit report.text.items c.print.result old new is.1 is.2
    (subst (λ (xs : List ℕ). Prints report.exit xs c.print.result old new) c.deref.ensures.value c.print.ensures.prints)
