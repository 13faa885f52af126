use Rattle.s2_mode.proofs.Modes.{code_rate_is}
use Rattle.s2_mode.proofs.laws.code_rates.Goals as goal

pub returns : goal.returns
returns c = code_rate_is
