use Rattle.s2_mode.proofs.Modes.{frame_sizes}
use Rattle.s2_mode.proofs.mode.Mode.width.Goals as goal

pub returns-then-is_qpsk-clause-sizes : goal.returns-then-is_qpsk-clause-sizes
returns-then-is_qpsk-clause-sizes c = frame_sizes _ c.is_qpsk.ensures.valid

pub returns-else-is_qpsk-clause-sizes : goal.returns-else-is_qpsk-clause-sizes
returns-else-is_qpsk-clause-sizes c = frame_sizes _ c.is_qpsk.ensures.valid
