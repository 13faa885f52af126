use Rattle.std.proofs.Common.{◌≡◌, ap, ◌∙◌, arith, to_z-of_z}
use Rattle.std.proofs.lemmas.Int.{ints, clamps}
use Rattle.s2_channel.specs.Noise.{gain, moved}
use Rattle.s2_channel.proofs.noise.moved.Goals as goal

pub returns : goal.returns
unfolding moved
returns c =
    let is : c.gain.result ≡ gain c.args.strength c.args.sum = c.gain.ensures.value ∙ ap (gain c.args.strength) (to_z-of_z c.ranges.sum) in
    omega (arith, ints, clamps, is)
