use Rattle.std.proofs.Common.{◌≡◌, ◌<◌, length, take}
use Rattle.s2_channel.proofs.Streams.{Passed}
use Rattle.s2_channel.proofs.stream.add_to_all.Given as goal

-- what is written is the noisy symbols that were read, and what is left will follow them
abbrev pub invariant-all : goal.invariant-all
invariant-all g l = record {
  passed : Passed (g.R.CountedRead.remaining l.initial.reader) (g.R.CountedRead.remaining l.reader)
      (g.W.CountedWrite.contents l.initial.writer) (g.W.CountedWrite.contents l.writer)
      l.initial.noise.strength l.initial.noise.generator l.noise.generator (take l.held l.block) l.left;
  held : l.held < 4;
  size : length l.block ≡ 4096;
  strength : l.noise.strength ≡ l.initial.noise.strength;
  reads : g.R.Counted.count l.reader ≡ g.R.Counted.count l.initial.reader;
  writes : g.W.Counted.count l.writer ≡ g.W.Counted.count l.initial.writer;
}

abbrev pub decreases-all : goal.decreases-all
decreases-all g l = l.left
