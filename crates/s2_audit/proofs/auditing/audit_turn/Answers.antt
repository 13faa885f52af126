use Rattle.std.proofs.Common.{refl}
use Rattle.s2_audit.specs.FrameAnswers.{terms_by}
use Rattle.s2_audit.specs.Turns.{ends_by}
use Rattle.s2_audit.proofs.AuditLemmas.{with_rests}
use Rattle.s2_audit.proofs.auditing.audit_turn.Goals as goal

pub returns-clause-turns : goal.returns-clause-turns
returns-clause-turns g c =
    let ends = ends_by g.R.CountedRead.remaining in
    let old = ends c.args.symbols.now c.args.report.now c.args.certificates.now c.args.codewords.now c.args.packets.now in
    let next = c.audit_next.new in
    let mid = ends next.symbols next.report next.certificates next.codewords next.packets in
    let rest = c.with_rest.new in
    let new = ends next.symbols rest.report rest.certificates rest.codewords rest.packets in
    with_rests (terms_by c.args.auditor.now) old mid new c.args.auditor.now.replayer.follower next.auditor.replayer.follower c.args.place c.in_ok-turn.turn c.with_rest.result refl c.in_ok-turn.ensures.turns c.with_rest.ensures.rest
