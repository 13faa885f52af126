use Rattle.std.proofs.Common.{rules, subst}
use Rattle.s2_audit.specs.FrameAnswers.{AuditsBlock, FrameAuditor}
use Rattle.s2_audit.proofs.frame.FrameAuditor.by_certificate.Goals as goal

pub returns-clause-audits : goal.returns-clause-audits
returns-clause-audits g c = (
  c.audit_by_certificate.new.block,
  search rules,
  subst (λ (a : FrameAuditor). AuditsBlock a.rows a.replayer c.audit_by_certificate.new.replayer c.args.found c.args.line.now c.audit_by_certificate.new.block c.audit_by_certificate.new.word (g.R.CountedRead.remaining c.args.certificates.now) (g.R.CountedRead.remaining c.audit_by_certificate.new.certificates) c.audit_by_certificate.result) c.self.view_is c.audit_by_certificate.ensures.audits,
)
