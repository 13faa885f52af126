use Rattle.std.proofs.Common.{◌≡◌, ℕ, ◌<◌, ◌*◌, true, drop}
use Rattle.s2_certfile.specs.Field.{entry}
use Rattle.s2_certfile.specs.Format.{move}
use Rattle.s2_certfile.proofs.lists.are_moves.Given as goal

abbrev pub invariant-loop-i : goal.invariant-loop-i
invariant-loop-i l = record {
  rest : l.rest ≡ drop (l.i * move.size) l.bytes;
  passed : (k : ℕ) → k < l.i → move.test (entry move.size l.bytes k) ≡ true;
}
