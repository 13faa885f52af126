use Rattle.std.proofs.Common.{◌≡◌, ℕ, ◌<◌, ◌*◌, true, drop}
use Rattle.s2_certfile.specs.Field.{entry}
use Rattle.s2_certfile.specs.Format.{soft}
use Rattle.s2_certfile.proofs.lists.are_soft.Given as goal

abbrev pub invariant-loop-i : goal.invariant-loop-i
invariant-loop-i l = record {
  rest : l.rest ≡ drop (l.i * soft.size) l.bytes;
  passed : (k : ℕ) → k < l.i → soft.test (entry soft.size l.bytes k) ≡ true;
}
