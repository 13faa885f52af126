use Rattle.std.proofs.Common.{max, ap, ◌∙◌}
use Rattle.s2_bits.specs.Lanes.{lane}
use Rattle.s2_bits.specs.Lanes32.{plus32, minus32}
use Rattle.s2_soft.specs.Lanes.{number, times32, magnitude32}
use Rattle.s2_soft.proofs.FourWords.{word_fits}
use Rattle.s2_soft.proofs.Differences.{IsComponent, second_is}
use Rattle.s2_soft.proofs.psk8.second_differences.Goals as goal

pub returns : goal.returns
returns c = λ k lt.
    let a = lane c.args.i k in
    let b = lane c.args.q k in
    let ca : IsComponent a = record { fits = word_fits c.args.i c.fits-i.0 c.fits-i.1 k lt; small = c.requires.i k lt } in
    let cb : IsComponent b = record { fits = word_fits c.args.q c.fits-q.0 c.fits-q.1 k lt; small = c.requires.q k lt } in
    let p = c.times-p.ensures.each k lt ∙ (λ t. times32 a (c.all.ensures.each k lt t)) in
    let x = c.times-x.ensures.each k lt ∙ (λ t. times32 a (c.all-2.ensures.each k lt t)) in
    let y = c.times-y.ensures.each k lt ∙ (λ t. times32 b (c.all-3.ensures.each k lt t)) in
    let r = c.times.ensures.each k lt ∙ (λ t. times32 b (c.all-4.ensures.each k lt t)) in
    let size = c.magnitude.ensures.each k lt ∙ (λ t. magnitude32 (r t)) in
    let height = c.plus-height.ensures.each k lt ∙ (λ t. plus32 (size t) (c.all-5.ensures.each k lt t)) in
    let up = c.plus.ensures.each k lt ∙ (λ t. plus32 (p t) (height t)) in
    let above_x = c.plus-2.ensures.each k lt ∙ (λ t. plus32 (x t) (c.all-raised.ensures.each k lt t)) in
    let above_y = c.plus-3.ensures.each k lt ∙ (λ t. plus32 (y t) (c.all-raised.ensures.each k lt t)) in
    let axes = c.most.ensures.each k lt ∙ (λ t. max (above_x t) (above_y t)) in
    let first = c.most-zero.ensures.each k lt ∙ (λ t. max (up t) (axes t)) in
    let down = c.minus.ensures.each k lt ∙ (λ t. minus32 (height t) (p t)) in
    let below_x = c.minus-2.ensures.each k lt ∙ (λ t. minus32 (c.all-raised.ensures.each k lt t) (x t)) in
    let below_y = c.minus-3.ensures.each k lt ∙ (λ t. minus32 (c.all-raised.ensures.each k lt t) (y t)) in
    let others = c.most-2.ensures.each k lt ∙ (λ t. max (below_x t) (below_y t)) in
    let second = c.most-one.ensures.each k lt ∙ (λ t. max (down t) (others t)) in
    ap number (c.minus-4.ensures.each k lt ∙ (λ t. minus32 (first t) (second t))) ∙ second_is a b ca cb
