use Rattle.std.proofs.Common.{◌≡◌}
use Rattle.s2_send.specs.Sender.{transmitter_of}
use Rattle.s2_send.proofs.RunSteps.{Sending}
use Rattle.s2_send.proofs.sending.send_all.Given as goal

-- the units of the full fields so far are written, the sink took their codewords, and nothing was lost
abbrev pub invariant-packets : goal.invariant-packets
invariant-packets g l =
    Sending g.K.SendSink.takes (transmitter_of l.fn.sender) (g.R.CountedRead.remaining l.fn.reader) (g.R.CountedRead.remaining l.reader)
    (g.W.CountedWrite.contents l.fn.writer) (g.W.CountedWrite.contents l.writer) l.fn.sink l.sink l.sender
    × (l.sender.stream.packets ≡ l._accepted)
    × (l._accepted-end ≡ l.fn.sender.stream.limit)
    × (g.R.Counted.count l.reader ≡ g.R.Counted.count l.fn.reader)
    × (g.W.Counted.count l.writer ≡ g.W.Counted.count l.fn.writer)
    × (g.K.SendSink.count l.sink ≡ g.K.SendSink.count l.fn.sink)
