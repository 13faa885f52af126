use Rattle.std.proofs.Common.{None, sym, ap}
use Rattle.s2_io.specs.Screens.{Screen, screen_of}
use Rattle.s2_link.specs.Link.{setup_of}
use Rattle.s2_audit.specs.Commands.{files_by}
use Rattle.s2_audit.proofs.CommandLemmas.{ran}
use Rattle.s2_audit.proofs.command.audit_command.Goals as goal

pub returns-clause-run : goal.returns-clause-run
returns-clause-run g c =
    let contents = g.O.CountedWrite.contents in
    let count = g.O.Counted.count in
    let done = c.audit_files-ended in
    let was = c.console.view_is in
    let before : Screen = screen_of (contents c.console.inside.output) (count c.console.inside.output) None 0 in
    let after : Screen = screen_of (contents done.new.out) (count done.new.out) None 0 in
    let between : Screen = screen_of (contents done.new.out) (count done.new.out) (g.E.CountedWrite.contents c.console.inside.errors) (g.E.Counted.count c.console.inside.errors) in
    let files = files_by g.R.CountedRead.remaining g.R.Counted.count in
    ran (setup_of c.args.setup) _ (files c.args.rows.now c.args.symbols.now c.args.report.now c.args.certificates.now c.args.codewords.now c.args.packets.now)
    (files done.new.rows done.new.symbols done.new.report done.new.certificates done.new.codewords done.new.packets) before after between c.args.console.now c.finish.new.self done.result c.finish.result
    (ap (λ (s : Screen). s.output) was) (ap (λ (s : Screen). s.output_failed) was) (sym c.finish.ensures.output) (sym c.finish.ensures.output_failed)
    (ap (λ (s : Screen). s.errors) was) (ap (λ (s : Screen). s.errors_failed) was)
    c.finish.ensures.exit done.ensures.runs done.ensures.read done.ensures.no_read done.ensures.write done.ensures.no_write c.finish.ensures.told
