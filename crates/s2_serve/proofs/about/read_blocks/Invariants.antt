use Rattle.std.proofs.Common.{◌≡◌}
use Rattle.s2_serve.proofs.about.read_blocks.Given as goal

-- no read failed
abbrev pub invariant-blocks-2 : goal.invariant-blocks-2
invariant-blocks-2 g l = record { reads : g.R.Counted.count l.reader ≡ g.R.Counted.count l.fn.reader }
