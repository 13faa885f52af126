use Rattle.std.proofs.Common.{rules}
use Rattle.s2_serve.proofs.about.read_blocks.Goals as goal

pub blocks-2-init : goal.blocks-2-init
blocks-2-init g c = record { reads = search rules }

pub blocks-2-preserved : goal.blocks-2-preserved
blocks-2-preserved g c = record { reads = search rules }
