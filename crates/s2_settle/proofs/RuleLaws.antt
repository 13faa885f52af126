-- The laws of rows and lanes.
use Rattle.std.proofs.Common.{arith}
use Rattle.s2_settle.specs.Laws.{StartLaw, LayerLaw}
use Rattle.s2_settle.proofs.PlainLayers.{layer_both}
use Rattle.s2_settle.proofs.PlainPasses.{start_both}

pub start_law : StartLaw
start_law rows soft word fit all = start_both rows fit soft word all

pub layer_law : LayerLaw
layer_law rows step r h s fit few low shown = layer_both rows fit step (omega arith) r low h s shown
