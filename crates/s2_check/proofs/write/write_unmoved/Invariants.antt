use Rattle.std.proofs.Common.{◌≡◌, take, replicate}
use Rattle.std.specs.List.{flat_map}
use Rattle.s2_certfile.specs.Format.{move}
use Rattle.s2_certfile.specs.Pages.{GoesThrough}
use Rattle.s2_check.specs.Moves.{no_move}
use Rattle.s2_check.proofs.write.write_unmoved.Given as goal

abbrev pub invariant-loop-i : goal.invariant-loop-i
invariant-loop-i g l = record {
  bytes : GoesThrough (flat_map move.bytes (take l.i (replicate l.count no_move))) (g.W.CountedWrite.contents l.initial.out) (g.W.CountedWrite.contents l.out) l.initial.page.items l.page.items;
  count : g.W.Counted.count l.out ≡ g.W.Counted.count l.initial.out;
}
