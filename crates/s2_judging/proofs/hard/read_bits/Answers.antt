use Rattle.std.proofs.Common.{rules, arith, ◌∙◌}
use Rattle.s2_judging.proofs.BitTokens.{ends_early, ends_well}
use Rattle.s2_judging.proofs.hard.read_bits.Goals as goal

pub returns-then-len-count-clause-values : goal.returns-then-len-count-clause-values
returns-then-len-count-clause-values g c = c.loop-rest.invariant.0 ∙ ends_early _ _ _ _ (search rules) (omega arith)

pub returns-clause-values : goal.returns-clause-values
returns-clause-values g c = c.loop-rest.invariant.0 ∙ ends_well _ _ _ _ (search rules) (omega arith)
