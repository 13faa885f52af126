use Rattle.s2_map.proofs.Places.{interleaver_is}
use Rattle.s2_map.proofs.laws.interleaver.Goals as goal

pub returns : goal.returns
returns c = interleaver_is
