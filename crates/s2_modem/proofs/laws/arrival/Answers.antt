use Rattle.s2_modem.proofs.Arrival.{arrival_law}
use Rattle.s2_modem.proofs.laws.arrival.Goals as goal

pub returns : goal.returns
returns c = arrival_law c.args.mode c.k.ensures.valid c.k.ensures.sizes
