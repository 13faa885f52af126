use Rattle.s2_bch.proofs.GeneratorFacts.{one_word}
use Rattle.s2_bch.proofs.laws.unique.Goals as goal

pub returns : goal.returns
returns c = one_word c.args.mode c.t.ensures.valid
