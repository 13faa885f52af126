use Rattle.s2_names.proofs.RateTextLemmas.{one_rate}
use Rattle.s2_names.proofs.laws.rate_texts.Goals as goal

pub returns : goal.returns
returns c = one_rate
