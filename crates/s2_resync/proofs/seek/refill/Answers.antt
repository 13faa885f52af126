use Rattle.std.proofs.Common.{◌≡◌, arith}
use Rattle.std.proofs.lemmas.List.{nil_from_length}
use Rattle.s2_resync.proofs.StepLemmas.{refilled}
use Rattle.s2_resync.proofs.seek.refill.Goals as goal

pub returns-then-branch-clause-leads : goal.returns-then-branch-clause-leads
returns-then-branch-clause-leads g c =
    let packet = c.args.packet.now in
    let ahead = c.seek.new.ahead in
    let none : packet.len ≡ 0 = grind (arith, c.is_empty.ensures, c.if-is_empty.true) in
    refilled c.args.step.now c.seek.new.step c.begin_packet.new.step _ (g.R.CountedRead.remaining c.seek.new.reader) packet.items c.begin_packet.new.packet.items ahead.items c.begin_packet.new.ahead.items
    (nil_from_length packet.items (omega (arith, none, packet.ok.0))) c.in_ok-seek.ensures.leads (c.in_ok-seek.ensures.begins c.if-branch.true)
    (omega (arith, c.in_ok-seek.ensures.whole c.if-branch.true, ahead.ok.0)) c.begin_packet.ensures.packet c.begin_packet.ensures.rest c.begin_packet.ensures.step
