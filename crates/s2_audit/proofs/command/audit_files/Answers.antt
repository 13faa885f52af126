use Rattle.std.proofs.Common.{refl, rules}
use Rattle.s2_audit.specs.Commands.{files_by}
use Rattle.s2_audit.proofs.CommandLemmas.{none_after_rows, on_rows, read_after}
use Rattle.s2_audit.proofs.command.audit_files.Goals as goal

pub returns-in-Ok-clause-runs : goal.returns-in-Ok-clause-runs
returns-in-Ok-clause-runs g c =
    let files = files_by g.R.CountedRead.remaining g.R.Counted.count in
    on_rows _ _ (files c.args.rows.now c.args.symbols.now c.args.report.now c.args.certificates.now c.args.codewords.now c.args.packets.now)
    (files c.read_matrix.new.reader c.audit_link.new.symbols c.audit_link.new.report c.audit_link.new.certificates c.audit_link.new.codewords c.audit_link.new.packets)
    _ _ _ _ _ _ c.shape.ensures.is c.of-link.ensures c.in-Ok.ensures.rows c.audit_link.ensures.audits

pub returns-in-Ok-clause-read : goal.returns-in-Ok-clause-read
returns-in-Ok-clause-read g c = λ e.
    let files = files_by g.R.CountedRead.remaining g.R.Counted.count in
    read_after (files c.args.rows.now c.args.symbols.now c.args.report.now c.args.certificates.now c.args.codewords.now c.args.packets.now)
    (files c.read_matrix.new.reader c.audit_link.new.symbols c.audit_link.new.report c.audit_link.new.certificates c.audit_link.new.codewords c.audit_link.new.packets)
    (search rules) refl refl (c.audit_link.ensures.read e)

pub returns-in-Ok-clause-no_read : goal.returns-in-Ok-clause-no_read
returns-in-Ok-clause-no_read g c = λ e. none_after_rows (search rules) (c.audit_link.ensures.no_read e)
