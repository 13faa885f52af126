use Rattle.std.proofs.Common.{◌≡◌, None}
use Rattle.s2_replay.specs.Running.{IsBy}
use Rattle.s2_audit.specs.FrameAnswers.{terms_by}
use Rattle.s2_audit.specs.Turns.{SameFailures, ends_by, failures_by}
use Rattle.s2_audit.proofs.AuditLemmas.{Progress}
use Rattle.s2_audit.proofs.auditing.audit_report.Given as goal

-- the lines so far were audited, and no call failed
abbrev pub invariant-lines : goal.invariant-lines
invariant-lines g l = record {
  progress : Progress (terms_by l.fn.auditor) l.line (ends_by g.R.CountedRead.remaining l.fn.symbols l.fn.report l.fn.certificates l.fn.codewords l.fn.packets)
      (ends_by g.R.CountedRead.remaining l.symbols l.report l.certificates l.codewords l.packets) l.auditor.replayer.follower l.standing (g.O.CountedWrite.contents l.fn.out) (g.O.CountedWrite.contents l.out);
  terms : terms_by l.auditor ≡ terms_by l.fn.auditor;
  none : l.auditor.replayer.follower.found ≡ None;
  by : IsBy (terms_by l.fn.auditor) l.auditor.replayer.follower;
  same : SameFailures (failures_by g.R.Counted.count l.fn.symbols l.fn.report l.fn.certificates l.fn.codewords l.fn.packets)
      (failures_by g.R.Counted.count l.symbols l.report l.certificates l.codewords l.packets);
  out : g.O.Counted.count l.out ≡ g.O.Counted.count l.fn.out;
}
