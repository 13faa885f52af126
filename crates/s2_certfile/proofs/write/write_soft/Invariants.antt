use Rattle.std.proofs.Common.{◌≡◌, take}
use Rattle.std.specs.List.{flat_map}
use Rattle.s2_certfile.specs.Format.{soft}
use Rattle.s2_certfile.specs.Pages.{GoesThrough}
use Rattle.s2_certfile.proofs.write.write_soft.Given as goal

abbrev pub invariant-loop-value : goal.invariant-loop-value
invariant-loop-value g l = record {
  bytes : GoesThrough (flat_map soft.bytes (take l.value-index l.values)) (g.W.CountedWrite.contents l.initial.out) (g.W.CountedWrite.contents l.out) l.initial.page.items l.page.items;
  count : g.W.Counted.count l.out ≡ g.W.Counted.count l.initial.out;
}
