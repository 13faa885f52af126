use Rattle.std.proofs.Common.{◌≡◌, ◌+◌, ◌*◌, ◌≤◌, length}
use Rattle.s2_bbframe.specs.Limits.{max_field_bytes, packets_room}
use Rattle.s2_records.specs.Frames.{frame_bytes}
use Rattle.s2_records.proofs.Progress.{Progress}
use Rattle.s2_records.proofs.joining.join_all.Given as goal

-- the packets of the frames so far are written and counted, and no call failed
abbrev pub invariant-frames : goal.invariant-frames
invariant-frames g l = record {
  progress : Progress l.mode l._taken (g.R.CountedRead.remaining l.fn.reader) (g.R.CountedRead.remaining l.reader)
      (g.W.CountedWrite.contents l.fn.writer) (g.W.CountedWrite.contents l.writer) l.joiner l.counts;
  frame : length l.frame ≡ frame_bytes l.mode;
  room : packets_room max_field_bytes ≤ length l.buffer;
  number : l.counts.frames ≡ l._taken;
  delivered : l.counts.delivered ≤ l._taken;
  packets : l.counts.packets + l.counts.bad ≤ 8191 * l._taken;
  reads : g.R.Counted.count l.reader ≡ g.R.Counted.count l.fn.reader;
  writes : g.W.Counted.count l.writer ≡ g.W.Counted.count l.fn.writer;
}
