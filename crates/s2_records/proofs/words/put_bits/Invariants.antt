use Rattle.std.proofs.Common.{◌≡◌, take}
use Rattle.s2_certfile.specs.Field.{bytes_of_bits}
use Rattle.s2_certfile.specs.Pages.{GoesThrough}
use Rattle.s2_records.proofs.words.put_bits.Given as goal

abbrev pub invariant-loop-k : goal.invariant-loop-k
invariant-loop-k g l = record {
  bytes : GoesThrough (take l.k (bytes_of_bits l.bits)) (g.W.CountedWrite.contents l.initial.out) (g.W.CountedWrite.contents l.out) l.initial.block.items l.block.items;
  count : g.W.Counted.count l.out ≡ g.W.Counted.count l.initial.out;
}
