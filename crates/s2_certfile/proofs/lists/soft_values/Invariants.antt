use Rattle.std.proofs.Common.{◌≡◌, ◌*◌, map, drop, All}
use Rattle.s2_certfile.specs.Field.{places}
use Rattle.s2_certfile.specs.File.{IsSoft}
use Rattle.s2_certfile.specs.Field.{entry}
use Rattle.s2_certfile.specs.Format.{soft}
use Rattle.s2_certfile.proofs.lists.soft_values.Given as goal

abbrev pub invariant-loop-i : goal.invariant-loop-i
invariant-loop-i l = record {
  rest : l.rest ≡ drop (l.i * soft.size) l.bytes;
  values : l.values.items ≡ map (λ k. soft.value (entry soft.size l.bytes k)) (places l.i);
  fit : All IsSoft l.values.items;
}
