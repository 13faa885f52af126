use Rattle.std.proofs.Common.{◌≡◌, ◌*◌, map, drop, All}
use Rattle.s2_certfile.specs.File.{IsMove}
use Rattle.s2_certfile.specs.Field.{entry, places}
use Rattle.s2_certfile.specs.Format.{move}
use Rattle.s2_certfile.proofs.lists.moves.Given as goal

abbrev pub invariant-loop-i : goal.invariant-loop-i
invariant-loop-i l = record {
  rest : l.rest ≡ drop (l.i * move.size) l.bytes;
  values : l.values.items ≡ map (λ k. move.value (entry move.size l.bytes k)) (places l.i);
  fit : All IsMove l.values.items;
}
