use Rattle.s2_modem.proofs.HeadlineLemmas.{calls_law}
use Rattle.s2_modem.proofs.laws.calls.Goals as goal

pub returns : goal.returns
returns c = calls_law c.args.mode c.k.ensures.valid c.k.ensures.sizes
