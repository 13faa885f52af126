use Rattle.s2_bch.proofs.MinimalFacts.{normal_minimals, short_minimals}
use Rattle.s2_bch.proofs.laws.generators.Goals as goal

pub returns-clause-normal : goal.returns-clause-normal
returns-clause-normal c e = normal_minimals c.args.mode c.t.ensures.valid e

pub returns-clause-short : goal.returns-clause-short
returns-clause-short c e = short_minimals c.args.mode c.t.ensures.valid e
