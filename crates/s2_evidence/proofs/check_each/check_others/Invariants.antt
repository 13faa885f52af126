use Rattle.std.proofs.Common.{◌≡◌, ℕ, List, [], ◌∷◌, Option, length}
use Rattle.s2_certfile.specs.File.{File}
use Rattle.s2_evidence.specs.CheckingEach.{AnsweredSoFar}
use Rattle.s2_evidence.specs.Pieces.{max_piece}
use Rattle.s2_evidence.proofs.check_each.check_others.Given as goal

-- the lines of the certificates so far are printed, and no call failed
abbrev pub invariant-others : goal.invariant-others
invariant-others g l = record {
  so_far : (before start : Option (List ℕ)) (file : File)
      → AnsweredSoFar before (g.R.CountedRead.remaining l.fn.certificates) l.fn.matrix (file ∷ []) l.fn.first start (g.O.CountedWrite.contents l.fn.out)
      → (others : List File) × (length others ≡ l._checked) × AnsweredSoFar before (g.R.CountedRead.remaining l.certificates) l.fn.matrix (file ∷ others) l.exit start (g.O.CountedWrite.contents l.out);
  room : length l.buffer ≡ max_piece;
  reads : g.R.Counted.count l.certificates ≡ g.R.Counted.count l.fn.certificates;
  writes : g.O.Counted.count l.out ≡ g.O.Counted.count l.fn.out;
}
