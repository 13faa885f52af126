use Rattle.s2_send.proofs.OnlyFrames.{one_frame_law}
use Rattle.s2_send.proofs.laws.one_frame.Goals as goal

pub returns : goal.returns
returns c = one_frame_law c.args.mode c.k.ensures.sizes c.unique.ensures
