use Rattle.s2_modem.proofs.HeadlineLemmas.{keeps_headline}
use Rattle.s2_modem.proofs.laws.headline.Goals as goal

pub returns : goal.returns
returns c = keeps_headline c.args.mode c.k.ensures.valid c.k.ensures.sizes
