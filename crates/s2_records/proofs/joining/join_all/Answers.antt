use Rattle.std.proofs.Common.{◌≡◌, ◌+◌, ◌<◌, length, ap, ◌∙◌, subst, rules, arith}
use Rattle.std.specs.Io.KnownBytes.{Consumes}
use Rattle.std.proofs.lemmas.List.{length-take-le, take_all}
use Rattle.s2_records.specs.Frames.{frame_bytes}
use Rattle.s2_records.proofs.Progress.{begins, goes_on, counted_more, finishes, stops_reading, stops_there, stops_writing}
use Rattle.s2_records.proofs.joining.join_all.Goals as goal

pub frames-init : goal.frames-init
frames-init g c = record {
  progress = begins _ _ _ _ _ c.new-joiner.ensures c.none-counts.ensures;
  frame = c.requires.frame;
  room = c.requires.room;
  number = search rules;
  delivered = search rules;
  packets = search rules;
  reads = search rules;
  writes = search rules;
}

pub returns-in_default-clause-joins : goal.returns-in_default-clause-joins
returns-in_default-clause-joins g c =
    let so = c.frames.invariant in
    stops_reading _ _ _ _ _ _ _ _ _ so.progress c.read_full.new.buf _ _ _ _ (c.read_full.auto.buf ∙ so.frame)
    c.in_default.ensures.part (c.in_default.ensures.cause ∙ ap (λ n. n + 1) so.reads) so.writes

pub returns-then-n-frame-clause-joins : goal.returns-then-n-frame-clause-joins
returns-then-n-frame-clause-joins g c =
    let so = c.frames.invariant in
    let whole : length c.read_full.new.buf ≡ frame_bytes c.args.mode = c.read_full.auto.buf ∙ so.frame in
    let short : c.in-Ok.n < frame_bytes c.args.mode = omega (arith, c.if-n-frame.true, whole) in
    finishes _ _ _ _ _ _ _ _ _ so.progress c.in-Ok.n c.read_full.new.buf _ _ _ _ (length-take-le c.in-Ok.n c.read_full.new.buf c.in-Ok.ensures.bound) short
    c.in-Ok.ensures.bytes (c.in-Ok.ensures.end (omega (arith, short, whole))) c.frames-test.true so.writes

pub returns-in_default-write_frame-clause-joins : goal.returns-in_default-write_frame-clause-joins
returns-in_default-write_frame-clause-joins g c =
    let so = c.frames.invariant in
    let whole : length c.read_full.new.buf ≡ frame_bytes c.args.mode = c.read_full.auto.buf ∙ so.frame in
    let read = subst (Consumes (g.R.CountedRead.remaining c.frames.reader) (g.R.CountedRead.remaining c.read_full.new.reader)) (take_all c.in-Ok.n c.read_full.new.buf c.if-n-frame.false) c.in-Ok.ensures.bytes in
    let some : 0 < frame_bytes c.args.mode = omega (arith, c.requires.sizes.field) in
    stops_writing _ _ _ _ _ _ _ _ _ _ c.read_full.new.buf _ _ _ _ so.progress some whole read
    c.in_default-write_frame.ensures.part (c.in_default-write_frame.ensures.cause ∙ ap (λ n. n + 1) so.writes)

pub frames-preserved : goal.frames-preserved
frames-preserved g c =
    let so = c.frames.invariant in
    let made = c.in-Ok-write_frame.ensures in
    let whole : length c.read_full.new.buf ≡ frame_bytes c.args.mode = c.read_full.auto.buf ∙ so.frame in
    let read = subst (Consumes (g.R.CountedRead.remaining c.frames.reader) (g.R.CountedRead.remaining c.read_full.new.reader)) (take_all c.in-Ok.n c.read_full.new.buf c.if-n-frame.false) c.in-Ok.ensures.bytes in
    let (frames, delivered, packets) = counted_more c.frames.counts c.with_frame-counts.result c.in-Ok-write_frame.made c.frames._taken c.with_frame-counts.ensures made.few so.number so.delivered so.packets in
    record {
      progress = goes_on _ _ _ _ _ _ _ _ _ _ _ _ c.in-Ok-write_frame.made c.read_full.new.buf so.progress whole read made.held made.written made.counts c.with_frame-counts.ensures;
      frame = whole;
      room = omega (arith, so.room, made.size);
      number = frames;
      delivered = delivered;
      packets = packets;
      reads = c.in-Ok.ensures.cause ∙ so.reads;
      writes = made.cause ∙ so.writes;
    }

pub returns-clause-joins : goal.returns-clause-joins
returns-clause-joins g c =
    let so = c.frames.invariant in
    let some : 0 < frame_bytes c.args.mode = omega (arith, c.requires.sizes.field) in
    stops_there _ _ _ _ _ _ _ _ _ _ _ _ so.progress some (omega (arith, c.frames-test.false, c.frames.auto._taken-end)) so.reads so.writes
