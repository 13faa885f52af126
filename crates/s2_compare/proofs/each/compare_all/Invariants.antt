use Rattle.std.proofs.Common.{◌≡◌, ℕ, List, length}
use Rattle.s2_compare.specs.ComparingEach.{Frame, ComparedSoFar, answers_of}
use Rattle.s2_compare.specs.Counting.{counts_of}
use Rattle.s2_compare.specs.Feeding.{feeds}
use Rattle.s2_compare.proofs.each.compare_all.Given as goal

-- the lines of the frames so far are printed, and no call failed
abbrev pub invariant-frames : goal.invariant-frames
invariant-frames g l = record {
  so_far : (frames : List Frame) × (length frames ≡ l._compared)
      × ComparedSoFar l.fn.comparer.form l.fn.comparer.rows
      (feeds (g.R.CountedRead.remaining l.fn.certificates) (g.R.CountedRead.remaining l.fn.words)) (feeds (g.R.CountedRead.remaining l.certificates) (g.R.CountedRead.remaining l.words))
      frames (g.O.CountedWrite.contents l.fn.out) (g.O.CountedWrite.contents l.out)
      × (l.counts ≡ counts_of (answers_of frames));
  same : l.comparer ≡ l.fn.comparer;
  certificate_reads : g.R.Counted.count l.certificates ≡ g.R.Counted.count l.fn.certificates;
  word_reads : g.R.Counted.count l.words ≡ g.R.Counted.count l.fn.words;
  writes : g.O.Counted.count l.out ≡ g.O.Counted.count l.fn.out;
}
