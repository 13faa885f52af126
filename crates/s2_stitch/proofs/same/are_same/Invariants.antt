use Rattle.std.proofs.Common.{◌≡◌, take}
use Rattle.s2_stitch.specs.Recalling.{are_same}
use Rattle.s2_stitch.proofs.same.are_same.Given as goal

-- whether those so far are the same
abbrev pub invariant-symbols : goal.invariant-symbols
invariant-symbols l = l.same ≡ are_same (take l.k l.own) (take l.k l.symbols)
