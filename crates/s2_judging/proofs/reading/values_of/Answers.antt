use Rattle.s2_judging.proofs.HardLemmas.{text_soft}
use Rattle.s2_judging.proofs.reading.values_of.Goals as goal

pub returns-in-Ok-clause-range : goal.returns-in-Ok-clause-range
returns-in-Ok-clause-range c = text_soft c.args.hard _ _ c.in-Ok.values.items c.in-Ok.ensures.values
