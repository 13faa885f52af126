use Rattle.s2_replay.proofs.AuditLemmas.{audited_none, frames_over}
use Rattle.s2_replay.proofs.Told.{tells_claim, tells_cut, tells_end, tells_frame}
use Rattle.s2_replay.proofs.laws.audits.Goals as goal

pub returns-clause-begins : goal.returns-clause-begins
returns-clause-begins c = audited_none

pub returns-clause-frame : goal.returns-clause-frame
returns-clause-frame c = tells_frame

pub returns-clause-claim : goal.returns-clause-claim
returns-clause-claim c = tells_claim

pub returns-clause-over : goal.returns-clause-over
returns-clause-over c = frames_over

pub returns-clause-cut : goal.returns-clause-cut
returns-clause-cut c = tells_cut

pub returns-clause-end : goal.returns-clause-end
returns-clause-end c = tells_end
