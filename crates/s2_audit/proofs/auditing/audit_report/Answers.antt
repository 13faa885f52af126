use Rattle.std.proofs.Common.{◌≡◌, None, Ok, Err, rules, refl, ap, ◌∙◌}
use Rattle.s2_io.specs.declared.fault.Fault.TheVariants as faults
use Rattle.s2_audit.specs.Turns.{ends_by}
use Rattle.s2_audit.proofs.AuditLemmas.{begins, ends_by_step, few_counts, goes_on_by, last_of, none_by, not_failed, reaches, stops_there}
use Rattle.s2_audit.proofs.CommandLemmas.{failed_before, limit_before, same_failures}
use Rattle.s2_audit.proofs.TurnLemmas.{same_by, same_terms}
use Rattle.s2_audit.proofs.auditing.audit_report.Goals as goal

pub lines-init : goal.lines-init
lines-init g c = record {
  progress = begins _ _ _ _ _ c.requires.begun c.requires.none (search rules);
  terms = refl;
  none = c.requires.none;
  by = c.requires.by;
  same = search rules;
  out = refl;
}

pub audit_step-requires-clause-few : goal.audit_step-requires-clause-few
audit_step-requires-clause-few g c = few_counts _ _ _ _ _ _ _ _ c.lines.invariant.progress c.lines-test.true

pub audit_step-requires-clause-by : goal.audit_step-requires-clause-by
audit_step-requires-clause-by g c = rw c.lines.invariant.terms c.lines.invariant.by

pub lines-preserved : goal.lines-preserved
lines-preserved g c =
    let so = c.lines.invariant in
    let step = c.audit_step.ensures in
    let ok : c.audit_step.result ≡ Ok None = c.in-Ok-None.is ∙ ap Ok c.in-Ok-None.field-0-is in
    record {
      progress = goes_on_by so.terms so.progress step.step ok;
      terms = same_terms _ _ _ _ step.rows step.same ∙ so.terms;
      none = none_by so.terms so.progress step.step ok;
      by = same_by _ _ _ step.same.follower so.by;
      same = same_failures so.same (step.no_read (not_failed _ faults.Read ok));
      out = step.no_write (not_failed _ faults.Write ok) ∙ so.out;
    }

pub returns-in-Ok-Some-clause-audits : goal.returns-in-Ok-Some-clause-audits
returns-in-Ok-Some-clause-audits g c = ends_by_step c.lines.invariant.terms c.lines.invariant.progress c.audit_step.ensures.step (Ok c.in-Ok-Some.exit) (c.in-Ok-Some.is ∙ ap Ok c.in-Ok-Some.field-0-is)

pub returns-in-Err-clause-audits : goal.returns-in-Err-clause-audits
returns-in-Err-clause-audits g c = ends_by_step c.lines.invariant.terms c.lines.invariant.progress c.audit_step.ensures.step (Err c.in-Err.fault) c.in-Err.is

pub returns-clause-audits : goal.returns-clause-audits
returns-clause-audits g c = stops_there _ _ _ _ _ _ _ _ c.lines.invariant.progress

pub returns-in-Err-clause-read : goal.returns-in-Err-clause-read
returns-in-Err-clause-read g c = λ e.
    let ends = ends_by g.R.CountedRead.remaining in
    let new = c.audit_step.new in
    failed_before (ends c.args.symbols.now c.args.report.now c.args.certificates.now c.args.codewords.now c.args.packets.now) (ends new.symbols new.report new.certificates new.codewords new.packets)
    c.lines.invariant.same (c.audit_step.ensures.read (c.in-Err.is ∙ ap last_of e))

pub returns-clause-read : goal.returns-clause-read
returns-clause-read g c = λ e.
    let ends = ends_by g.R.CountedRead.remaining in
    let new = c.lines in
    limit_before (ends c.args.symbols.now c.args.report.now c.args.certificates.now c.args.codewords.now c.args.packets.now) (ends new.symbols new.report new.certificates new.codewords new.packets)
    c.lines.invariant.same (reaches _ _ _ _ _ _ _ _ c.lines.invariant.progress (search rules))

pub returns-in-Ok-Some-clause-no_read : goal.returns-in-Ok-Some-clause-no_read
returns-in-Ok-Some-clause-no_read g c = λ e. same_failures c.lines.invariant.same (search rules)

pub returns-in-Err-clause-no_read : goal.returns-in-Err-clause-no_read
returns-in-Err-clause-no_read g c = λ e. same_failures c.lines.invariant.same (c.audit_step.ensures.no_read (λ bad. e (ap (λ x. x) (search rules))))
