use Rattle.std.proofs.Common.{◌≡◌, ◌+◌, ◌<◌, ℕ, List, [], ◌++◌, ◌∙◌, length, length-append, take, ap, sym, arith}
use Rattle.std.specs.Io.KnownBytes.{Consumes, prepend_known}
use Rattle.std.proofs.lemmas.List.{nil_from_length}
use Rattle.s2_resync.specs.Packets.{outcome}
use Rattle.s2_resync.proofs.StepLemmas.{given_none, reads}
use Rattle.s2_resync.proofs.packets.PacketReaderCountedRead.read.Goals as goal

pub returns-clause-bytes : goal.returns-clause-bytes
returns-clause-bytes g c =
    let inside = c.self.inside in
    let known = g.R.CountedRead.remaining in
    let packet = c.refill.new.packet in
    let rest = c.give.new.bytes in (
      reads c.args.self.now inside.step c.refill.new.step (prepend_known inside.ahead.items (known inside.inner)) (prepend_known c.refill.new.ahead.items (known c.refill.new.reader))
          inside.packet.items packet.items (take c.give.result c.give.new.buf) rest.items (ap outcome (sym c.self.view_is)) c.in_ok-refill.ensures.leads c.give.ensures.moved,
      λ zero some.
          let none : packet.len ≡ 0 = omega (arith, c.give.ensures.count, c.give.ensures.long, zero, some) in
          let parts : length packet.items ≡ length (take c.give.result c.give.new.buf) + length rest.items =
          ap length c.give.ensures.moved ∙ length-append (take c.give.result c.give.new.buf) rest.items in
          given_none rest.items c.refill.new.step (prepend_known c.refill.new.ahead.items (known c.refill.new.reader)) (nil_from_length rest.items (omega (arith, parts, none, packet.ok.0)))
          (c.in_ok-refill.ensures.end none),
    )
