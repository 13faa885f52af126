use Rattle.std.proofs.Common.{subst, sym}
use Rattle.s2_audit.specs.FrameAnswers.{terms_by}
use Rattle.s2_audit.specs.Steps.{IsPlaced}
use Rattle.s2_audit.specs.Turns.{ends_by}
use Rattle.s2_audit.proofs.AuditLemmas.{placed}
use Rattle.s2_audit.proofs.auditing.audit_step.Goals as goal

pub print_turn-requires-clause-placed : goal.print_turn-requires-clause-placed
print_turn-requires-clause-placed g c =
    let ends = ends_by g.R.CountedRead.remaining in
    let old = ends c.args.symbols.now c.args.report.now c.args.certificates.now c.args.codewords.now c.args.packets.now in
    let was = c.audit_turn.new in
    let new = ends was.symbols was.report was.certificates was.codewords was.packets in
    subst (λ l. IsPlaced l c.in-Ok.turn) (sym c.packets-in-Ok.ensures) (placed (terms_by c.args.auditor.now) old new c.args.auditor.now.replayer.follower was.auditor.replayer.follower c.place-place.result c.in-Ok.turn c.in-Ok.ensures.turns)
