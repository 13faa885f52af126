use Rattle.std.proofs.Common.{◌≡◌, ◌+◌, ◌<◌, true, false, length, ap, ◌∙◌, subst, refl, rules, arith, inl, inr, Ok, Err}
use Rattle.s2_send.specs.Running.{ReadsNext}
use Rattle.s2_send.specs.Sender.{Sender, transmitter_of}
use Rattle.s2_send.proofs.RunSteps.{at_start, goes_on, packets_kept, faulted, unwritten, ends, full_now}
use Rattle.s2_send.proofs.sending.send_all.Goals as goal

pub packets-init : goal.packets-init
packets-init g c =
    let is = c.restart.ensures.is in (
      at_start g.K.SendSink.takes g.K.SendSink.fails (transmitter_of c.args.sender.now) _ _ c.args.sink.now c.restart.new.self c.restart.ensures.past (ap transmitter_of is) (ap (λ (x : Sender). x.stream.slicing.size) is)
          c.restart.ensures.stops.large (ap (λ (x : Sender). x.stream.held) is) (ap (λ (x : Sender). x.stream.slicing.closed) is) (ap (λ (x : Sender). length x.stream.slicing.waiting) is),
      ap (λ (x : Sender). x.stream.packets) is,
      c.most-accepted-end.ensures ∙ ap (λ (x : Sender). x.stream.limit) is,
      refl,
      refl,
      refl,
    )

pub returns-in_err-more-clause-runs : goal.returns-in_err-more-clause-runs
returns-in_err-more-clause-runs g c =
    let so = c.packets.invariant in
    let fault = c.in_err-more.field-0.0 in
    let is : c.from_residual.result ≡ Err fault = search rules in
    let few : c.packets.sender.stream.packets < c.args.sender.now.stream.limit = omega (arith, so.1, so.2, c.packets-test.true) in
    faulted g.K.SendSink.takes g.K.SendSink.fails (transmitter_of c.args.sender.now) _ _ c.args.sink.now (g.R.CountedRead.remaining c.packets.reader) (g.R.CountedRead.remaining c.read_packet.new.reader)
    (g.W.CountedWrite.contents c.packets.writer) c.packets.sink c.packets.sender c.read_packet.new.sender _ fault c.from_residual.result so.0 few
    (λ e. inl (c.in_err-more.ensures.read (ap (λ x. Err x) e) ∙ ap (λ n. n + 1) so.3)) c.in_err-more.ensures.reads is

pub returns-in_default-clause-runs : goal.returns-in_default-clause-runs
returns-in_default-clause-runs g c =
    let so = c.packets.invariant in
    let few : c.packets.sender.stream.packets < c.args.sender.now.stream.limit = omega (arith, so.1, so.2, c.packets-test.true) in
    unwritten g.K.SendSink.takes g.K.SendSink.fails (transmitter_of c.args.sender.now) _ _ c.args.sink.now (g.R.CountedRead.remaining c.packets.reader) (g.R.CountedRead.remaining c.read_packet.new.reader)
    (g.W.CountedWrite.contents c.packets.writer) (g.W.CountedWrite.contents c.send_ready.new.writer) c.packets.sink c.send_ready.new.sink c.packets.sender c.read_packet.new.sender c.send_ready.new.sender
    c.in_ok-more.more _ so.0 few c.in_ok-more.ensures.reads c.in_default.ensures.sends.0 c.in_default.ensures.sends.1

pub returns-then-not-more-clause-runs : goal.returns-then-not-more-clause-runs
returns-then-not-more-clause-runs g c =
    let so = c.packets.invariant in
    let few : c.packets.sender.stream.packets < c.args.sender.now.stream.limit = omega (arith, so.1, so.2, c.packets-test.true) in
    let r = g.R.CountedRead.remaining c.packets.reader in
    let r' = g.R.CountedRead.remaining c.read_packet.new.reader in
    let last : ReadsNext c.packets.sender c.read_packet.new.sender r r' (Ok false) =
    subst (λ b. ReadsNext c.packets.sender c.read_packet.new.sender r r' (Ok b)) c.if-not-more.true c.in_ok-more.ensures.reads in
    ends g.K.SendSink.takes g.K.SendSink.fails (transmitter_of c.args.sender.now) _ _ c.args.sink.now r r'
    (g.W.CountedWrite.contents c.packets.writer) (g.W.CountedWrite.contents c.send_ready.new.writer) c.packets.sink c.send_ready.new.sink c.packets.sender c.read_packet.new.sender c.send_ready.new.sender
    _ c.counts.result so.0 few last c.in-Ok.ensures.sends c.counts.ensures.is

pub packets-preserved : goal.packets-preserved
packets-preserved g c =
    let so = c.packets.invariant in
    let r = g.R.CountedRead.remaining c.packets.reader in
    let r' = g.R.CountedRead.remaining c.read_packet.new.reader in
    let w = g.W.CountedWrite.contents c.packets.writer in
    let w' = g.W.CountedWrite.contents c.send_ready.new.writer in
    let next : ReadsNext c.packets.sender c.read_packet.new.sender r r' (Ok true) =
    subst (λ b. ReadsNext c.packets.sender c.read_packet.new.sender r r' (Ok b)) c.if-not-more.false c.in_ok-more.ensures.reads in (
      goes_on g.K.SendSink.takes g.K.SendSink.fails (transmitter_of c.args.sender.now) _ _ c.args.sink.now r r' w w' c.packets.sink c.send_ready.new.sink c.packets.sender c.read_packet.new.sender c.send_ready.new.sender
          so.0 next c.in-Ok.ensures.sends,
      packets_kept g.K.SendSink.takes g.K.SendSink.fails (transmitter_of c.args.sender.now) (g.R.CountedRead.remaining c.args.reader.now) (g.W.CountedWrite.contents c.args.writer.now) c.args.sink.now w w'
          c.packets.sink c.send_ready.new.sink c.read_packet.new.sender c.send_ready.new.sender c.in-Ok.ensures.sends
          ∙ (next.3 ∙ ap (λ n. n + 1) so.1),
      so.2,
      search rules,
      c.in-Ok.ensures.cause.0 ∙ so.4,
      c.in-Ok.ensures.cause.1 ∙ so.5,
    )

pub returns-clause-runs : goal.returns-clause-runs
returns-clause-runs g c =
    let so = c.packets.invariant in
    let full : c.packets.sender.stream.packets ≡ c.args.sender.now.stream.limit = omega (arith, so.1, so.2, c.packets-test.false, c.packets.auto._accepted-end) in
    full_now g.K.SendSink.takes g.K.SendSink.fails (transmitter_of c.args.sender.now) _ _ c.args.sink.now _ _ c.packets.sink c.packets.sender _ so.0 full (inr (so.3, full))
