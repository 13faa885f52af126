use Rattle.std.proofs.Common.{subst}
use Rattle.s2_mode.specs.Mode.{HasCodeSizes}
use Rattle.s2_mode.proofs.Modes.{code_sizes}
use Rattle.s2_mode.proofs.mode.Mode.n.Goals as goal

pub returns-then-self-clause-sizes : goal.returns-then-self-clause-sizes
returns-then-self-clause-sizes c = subst HasCodeSizes c.self.view_is (code_sizes _ c.self.invariant)

pub returns-else-self-clause-sizes : goal.returns-else-self-clause-sizes
returns-else-self-clause-sizes c = subst HasCodeSizes c.self.view_is (code_sizes _ c.self.invariant)
