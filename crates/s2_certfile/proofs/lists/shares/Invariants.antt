use Rattle.std.proofs.Common.{◌≡◌, ◌*◌, map, drop, All, FitsSigned, w32}
use Rattle.s2_certfile.specs.Field.{places}
use Rattle.s2_certfile.specs.Field.{entry}
use Rattle.s2_certfile.specs.Format.{share}
use Rattle.s2_certfile.proofs.lists.shares.Given as goal

abbrev pub invariant-loop-i : goal.invariant-loop-i
invariant-loop-i l = record {
  rest : l.rest ≡ drop (l.i * share.size) l.bytes;
  values : l.values.items ≡ map (λ k. share.value (entry share.size l.bytes k)) (places l.i);
  fit : All (FitsSigned w32) l.values.items;
}
