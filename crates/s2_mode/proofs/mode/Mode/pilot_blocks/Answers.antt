use Rattle.std.proofs.Common.{subst}
use Rattle.s2_mode.specs.Mode.{HasFrameSizes}
use Rattle.s2_mode.proofs.Modes.{frame_sizes}
use Rattle.s2_mode.proofs.mode.Mode.pilot_blocks.Goals as goal

pub returns-then-self-clause-sizes : goal.returns-then-self-clause-sizes
returns-then-self-clause-sizes c = subst HasFrameSizes c.self.view_is (frame_sizes _ c.self.invariant)

pub returns-else-self-clause-sizes : goal.returns-else-self-clause-sizes
returns-else-self-clause-sizes c = subst HasFrameSizes c.self.view_is (frame_sizes _ c.self.invariant)
