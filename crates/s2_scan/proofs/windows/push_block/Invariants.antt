use Rattle.std.proofs.Common.{◌≡◌, ◌-◌, ◌++◌, true, false}
use Rattle.s2_scan.specs.Inside.{HoldsLast}
use Rattle.s2_scan.specs.Passing.{passes_below}
use Rattle.s2_scan.proofs.windows.push_block.Given as goal

abbrev pub invariant-loop-k : goal.invariant-loop-k
invariant-loop-k l = record {
  big : HoldsLast false l.bytes l.k l.orders.big.odd l.orders.big.even;
  little : HoldsLast true l.bytes l.k l.orders.little.odd l.orders.little.even;
  found : l.passes.items ≡ l.initial.passes.items ++ passes_below l.first l.bytes (l.k - 89);
}
