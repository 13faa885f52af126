use Rattle.std.proofs.Common.{◌≡◌, ◌++◌, map, take}
use Rattle.s2_minsum.specs.Layout.{entry_of}
use Rattle.s2_minsum.proofs.entries.add_entries.Given as goal

abbrev pub invariant-loop-bit : goal.invariant-loop-bit
invariant-loop-bit l = l.entries.items ≡ l.initial.entries.items ++ map (entry_of l.matrix.shape) (take l.bit-index l.members)
