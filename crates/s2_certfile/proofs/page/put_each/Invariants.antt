use Rattle.std.proofs.Common.{◌≡◌, take}
use Rattle.s2_certfile.specs.Pages.{GoesThrough}
use Rattle.s2_certfile.proofs.page.put_each.Given as goal

abbrev pub invariant-loop-byte : goal.invariant-loop-byte
invariant-loop-byte g l = record {
  bytes : GoesThrough (take l.byte-index l.bytes) (g.W.CountedWrite.contents l.initial.out) (g.W.CountedWrite.contents l.out) l.initial.page.items l.page.items;
  count : g.W.Counted.count l.out ≡ g.W.Counted.count l.initial.out;
}
