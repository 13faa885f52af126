use Rattle.std.proofs.Common.{◌≡◌, ℕ, ◌-◌, ◌*◌, ◌/◌, ◌%◌, ◌≤◌, get_or, ap, ◌∙◌, arith}
use Rattle.std.proofs.Math.Nat.{mul-le-mul_right, mul-le-mul_left}
use Rattle.s2_bits.specs.Lanes16.{minus16}
use Rattle.s2_minsum.proofs.lanes.shorten.Goals as goal

-- neither the product nor the difference wraps
exact : (magnitude lacks : ℕ) → magnitude ≤ 1023 → lacks ≤ 8 → minus16 magnitude (magnitude * lacks % 65536 / 16) ≡ magnitude - magnitude * lacks / 16
exact magnitude lacks small few =
    let one : magnitude * lacks ≤ 1023 * lacks = mul-le-mul_right lacks small in
    let most : magnitude * lacks ≤ magnitude * 8 = mul-le-mul_left magnitude few in
    omega (arith, one, most)

pub returns : goal.returns
returns g c = record {
  long = c.minus.ensures.long;
  each = λ k lt.
      let magnitude = get_or c.args.magnitudes k 0 in
      c.minus.ensures.each k lt ∙ ap (λ x. minus16 magnitude x) (c.sixteenth.ensures.each k lt ∙ ap (λ x. x / 16) (c.times.ensures.each k lt ∙ ap (λ x. magnitude * x % 65536) (c.all.ensures.each k lt))) ∙ exact magnitude c.args.lacks (c.requires.magnitudes k lt) c.requires.lacks;
}
