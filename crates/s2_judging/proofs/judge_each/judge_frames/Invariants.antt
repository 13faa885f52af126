use Rattle.std.proofs.Common.{◌≡◌, ◌≤◌}
use Rattle.s2_matrix.specs.Code.{code_of}
use Rattle.s2_judging.specs.Files.{written}
use Rattle.s2_judging.specs.Bytewise.{pending_in, IsFrames, Spends}
use Rattle.s2_judging.proofs.JudgeEachLemmas.{SoFar}
use Rattle.s2_judging.proofs.judge_each.judge_frames.Given as goal

-- the certificates and lines of the frames so far are written, and no call failed
abbrev pub invariant-frames : goal.invariant-frames
invariant-frames g l = record {
  so_far : SoFar l.fn.hard l.fn.matrix l.fn.judge.tuning (pending_in l.fn.frames (g.R.CountedRead.remaining l.fn.soft)) (pending_in l.frames (g.R.CountedRead.remaining l.soft)) l.judged l.exit l.bits
      (written g.C.CountedWrite.contents g.C.Counted.count l.fn.certificates) (written g.C.CountedWrite.contents g.C.Counted.count l.certificates)
      (g.O.CountedWrite.contents l.fn.out) (g.O.CountedWrite.contents l.out);
  spends : Spends (g.R.CountedRead.remaining l.fn.soft) l.fn.frames.reading.left (g.R.CountedRead.remaining l.soft) l.frames.reading.left;
  rows : l.judge.rows ≡ l.fn.matrix;
  tuning : l.judge.tuning ≡ l.fn.judge.tuning;
  is : IsFrames l.frames;
  count : l.frames.count ≡ (code_of l.fn.matrix).bits;
  reads : g.R.Counted.count l.soft ≡ g.R.Counted.count l.fn.soft;
  failed : (written g.C.CountedWrite.contents g.C.Counted.count l.certificates).failed ≡ (written g.C.CountedWrite.contents g.C.Counted.count l.fn.certificates).failed;
  prints : g.O.Counted.count l.out ≡ g.O.Counted.count l.fn.out;
}
