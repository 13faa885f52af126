use Rattle.std.proofs.Common.{[]}
use Rattle.s2_certfile.proofs.Pages.{through_both}
use Rattle.s2_records.proofs.Blocks.{emptied}
use Rattle.s2_records.proofs.block.put.Goals as goal

pub returns-clause-bytes : goal.returns-clause-bytes
returns-clause-bytes g c =
    through_both _ _ _ _ _ c.put_first.result _ [] c.args.bytes.now (emptied _ _ _ _ c.in_ok-flush.ensures.bytes c.in_ok-flush.ensures.empty) c.put_first.ensures.bytes
