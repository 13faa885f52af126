use Rattle.std.proofs.Common.{◌+◌, ◌∙◌}
use Rattle.s2_bits.specs.Bits.{bit_at}
use Rattle.s2_map.proofs.Eights.{labels_of, labels_are}
use Rattle.s2_map.proofs.lanes.labels.Goals as goal

pub returns : goal.returns
returns c =
    let at = c.args.at in
    (λ t. labels_of (c.eight_from-first.ensures t) (c.eight_from.ensures t) (c.eight_from-2.ensures t))
    ∙ labels_are (λ k. bit_at c.args.first.now (at + k)) (λ k. bit_at c.args.second.now (at + k)) (λ k. bit_at c.args.third.now (at + k))
