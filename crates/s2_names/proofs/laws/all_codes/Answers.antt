use Rattle.s2_names.proofs.Codes.{each_there}
use Rattle.s2_names.proofs.laws.all_codes.Goals as goal

pub returns : goal.returns
returns c = each_there
