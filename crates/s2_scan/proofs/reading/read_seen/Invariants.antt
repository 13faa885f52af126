use Rattle.std.proofs.Common.{◌≡◌, ◌*◌, ◌≤◌, vec_len}
use Rattle.s2_scan.specs.Inside.{Fed}
use Rattle.s2_scan.proofs.reading.read_seen.Given as goal

abbrev pub invariant-loop-block : goal.invariant-loop-block
invariant-loop-block g l = record {
  fed : Fed (g.R.CountedRead.remaining l.initial.reader) (g.R.CountedRead.remaining l.reader) l.feed.block.items l.feed.held l.feed.first l.feed.passes.items l.feed.front.items;
  count : g.R.Counted.count l.reader ≡ g.R.Counted.count l.initial.reader;
  size : vec_len l.feed.block ≡ 33124;
  held : l.feed.held ≤ 356;
  first : l.feed.first ≡ 8192 * l._block;
}
