use Rattle.s2_certfile.proofs.ReadAgain.{read_back_lem}
use Rattle.s2_certfile.proofs.laws.read_back.Goals as goal

pub returns : goal.returns
returns c = read_back_lem
