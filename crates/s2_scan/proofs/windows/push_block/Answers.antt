use Rattle.std.proofs.Common.{◌++◌, true, false, ap, ◌∙◌}
use Rattle.s2_scan.proofs.Blocks.{last_pass, none_below, one_below}
use Rattle.s2_scan.proofs.Held.{none_held}
use Rattle.s2_scan.proofs.windows.push_block.Goals as goal

pub loop-k-init : goal.loop-k-init
loop-k-init c = record {
  big = none_held false c.args.bytes.now c.no_signs-orders.result.big.odd c.no_signs-orders.result.big.even;
  little = none_held true c.args.bytes.now c.no_signs-orders.result.little.odd c.no_signs-orders.result.little.even;
  found = none_below c.args.first c.args.bytes.now c.args.passes.now.items;
}

pub loop-k-preserved : goal.loop-k-preserved
loop-k-preserved c = record {
  big = c.with_symbol-orders.ensures.big;
  little = c.with_symbol-orders.ensures.little;
  found =
      let k = c.loop-k.k in
      c.in_ok-push_last.ensures ∙ (ap (λ l. l ++ last_pass c.args.first c.args.bytes.now k) c.loop-k.invariant.found ∙ one_below c.args.first c.args.bytes.now c.args.passes.now.items k);
}
