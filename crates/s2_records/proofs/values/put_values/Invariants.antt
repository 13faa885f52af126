use Rattle.std.proofs.Common.{◌≡◌, drop}
use Rattle.s2_records.specs.Values.{values_line}
use Rattle.s2_records.proofs.Blocks.{ThroughTo}
use Rattle.s2_records.proofs.values.put_values.Given as goal

-- the line up to this value went through the block
abbrev pub invariant-loop-at : goal.invariant-loop-at
invariant-loop-at g l = record {
  bytes : ThroughTo (values_line l.values) (values_line (drop l.at l.values)) (g.W.CountedWrite.contents l.initial.out) (g.W.CountedWrite.contents l.out) l.initial.block.items l.block.items;
  count : g.W.Counted.count l.out ≡ g.W.Counted.count l.initial.out;
}
