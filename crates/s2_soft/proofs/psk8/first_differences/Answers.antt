use Rattle.std.proofs.Common.{max, ap, ◌∙◌}
use Rattle.s2_bits.specs.Lanes.{lane}
use Rattle.s2_bits.specs.Lanes32.{plus32, minus32}
use Rattle.s2_soft.specs.Lanes.{number, times32, magnitude32}
use Rattle.s2_soft.proofs.FourWords.{word_fits}
use Rattle.s2_soft.proofs.Differences.{IsComponent, first_is}
use Rattle.s2_soft.proofs.psk8.first_differences.Goals as goal

pub returns : goal.returns
returns c = λ k lt.
    let a = lane c.args.i k in
    let b = lane c.args.q k in
    let ca : IsComponent a = record { fits = word_fits c.args.i c.fits-i.0 c.fits-i.1 k lt; small = c.requires.i k lt } in
    let cb : IsComponent b = record { fits = word_fits c.args.q c.fits-q.0 c.fits-q.1 k lt; small = c.requires.q k lt } in
    let p = c.times-p.ensures.each k lt ∙ (λ t. times32 a (c.all.ensures.each k lt t)) in
    let r = c.times-r.ensures.each k lt ∙ (λ t. times32 b (c.all-2.ensures.each k lt t)) in
    let s = c.plus.ensures.each k lt ∙ (λ t. plus32 (p t) (r t)) in
    let size = c.magnitude.ensures.each k lt ∙ (λ t. magnitude32 (s t)) in
    let longer = c.plus-2.ensures.each k lt ∙ (λ t. plus32 (size t) (c.all-longer.ensures.each k lt t)) in
    let x = c.times.ensures.each k lt ∙ (λ t. times32 a (c.all-3.ensures.each k lt t)) in
    let size_x = c.magnitude-2.ensures.each k lt ∙ (λ t. magnitude32 (x t)) in
    let first = c.most-zero.ensures.each k lt ∙ (λ t. max (longer t) (size_x t)) in
    let d = c.minus.ensures.each k lt ∙ (λ t. minus32 (p t) (r t)) in
    let size_d = c.magnitude-3.ensures.each k lt ∙ (λ t. magnitude32 (d t)) in
    let longer_d = c.plus-3.ensures.each k lt ∙ (λ t. plus32 (size_d t) (c.all-longer.ensures.each k lt t)) in
    let y = c.times-2.ensures.each k lt ∙ (λ t. times32 b (c.all-4.ensures.each k lt t)) in
    let size_y = c.magnitude-4.ensures.each k lt ∙ (λ t. magnitude32 (y t)) in
    let second = c.most-one.ensures.each k lt ∙ (λ t. max (longer_d t) (size_y t)) in
    ap number (c.minus-2.ensures.each k lt ∙ (λ t. minus32 (first t) (second t))) ∙ first_is a b ca cb
