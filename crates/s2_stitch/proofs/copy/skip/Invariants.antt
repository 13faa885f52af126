use Rattle.std.proofs.Common.{◌≡◌, true}
use Rattle.s2_stitch.specs.Copies.{SkipsSymbols}
use Rattle.s2_stitch.proofs.copy.skip.Given as goal

-- so many symbols were read, and no read failed
abbrev pub invariant-symbols : goal.invariant-symbols
invariant-symbols g l = record {
  skipped : SkipsSymbols l._skipped (g.C.CountedRead.remaining l.fn.copy) (g.C.CountedRead.remaining l.copy) true;
  count : g.C.Counted.count l.copy ≡ g.C.Counted.count l.fn.copy;
}
