use Rattle.std.proofs.Common.{length, ap, ◌∙◌}
use Rattle.s2_certfile.specs.Field.{entry}
use Rattle.s2_certfile.specs.Format.{soft}
use Rattle.s2_certfile.proofs.EntryLemmas.{length-listed}
use Rattle.s2_certfile.proofs.Bodies.{parts_are}
use Rattle.s2_certfile.proofs.contents.Contents.take_apart.Goals as goal

pub returns : goal.returns
returns c =
    parts_are c.args.header.now c.args.bytes.now c.n-n.result _ _ c.in_ok-soft.soft.items c.in_ok-word.word _ c.n-n.ensures.is c.split_at.ensures.front c.split_at.ensures.back _ _ c.split_at-2.ensures.front c.split_at-2.ensures.back c.in_ok-soft.ensures.are c.in_ok-word.ensures.0 c.in_ok-word.ensures.1 c.in_ok-held.ensures.is

pub invariant_of-result : goal.invariant_of-result
invariant_of-result c =
    let h = c.requires.header in
    let n = c.n-n.result in
    record {
      shaped = h.shaped;
      scale_some = h.scale_some;
      scale_most = h.scale_most;
      soft_long = ap length c.in_ok-soft.ensures.are ∙ length-listed (λ k. soft.value (entry soft.size c.split_at.result.0.now k)) n ∙ c.n-n.ensures.is;
      soft_range = c.in_ok-soft.ensures.fit;
      bits_long = c.in_ok-word.ensures.0 ∙ c.n-n.ensures.is;
      split = c.in_ok-held.ensures.fits;
    }
