use Rattle.std.proofs.Common.{rules}
use Rattle.s2_stitch.specs.Records.{sum_of}
use Rattle.s2_stitch.proofs.seal.seal_of.Goals as goal

pub returns : goal.returns
unfolding sum_of
returns c = search rules
