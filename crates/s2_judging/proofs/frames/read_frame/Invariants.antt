use Rattle.std.proofs.Common.{◌≡◌, ◌≤◌, All, length, vec_len, vec_capacity}
use Rattle.s2_check.specs.Views.{IsSoft}
use Rattle.s2_judging.specs.Frames.{Reads}
use Rattle.s2_judging.specs.Bytewise.{pending, IsReading, Spends}
use Rattle.s2_judging.proofs.frames.read_frame.Given as goal

-- the values are those of the words that were read, and no call failed
abbrev pub invariant-chunks : goal.invariant-chunks
invariant-chunks g l = record {
  words : Reads (pending l.fn.hard l.fn.reading l.fn.buffer (g.R.CountedRead.remaining l.fn.reader)) (pending l.hard l.reading l.buffer (g.R.CountedRead.remaining l.reader)) l.values.items;
  reading : IsReading l.reading l.buffer;
  spends : Spends (g.R.CountedRead.remaining l.fn.reader) l.fn.reading.left (g.R.CountedRead.remaining l.reader) l.reading.left;
  room : l.count ≤ vec_capacity l.values;
  most : vec_len l.values ≤ l.count;
  range : All IsSoft l.values.items;
  buffer : length l.buffer ≡ length l.fn.buffer;
  counts : g.R.Counted.count l.reader ≡ g.R.Counted.count l.fn.reader;
}

abbrev pub decreases-chunks : goal.decreases-chunks
decreases-chunks g l = l.reading.left
