use Rattle.std.proofs.Common.{arith, ◌≡◌, ◌∙◌, ◌+◌, ◌-◌, ◌*◌, ◌/◌, ◌%◌, ◌^◌, ◌<◌, ℕ, ap, length}
use Rattle.s2_bits.specs.Bits.{number_of}
use Rattle.s2_bch.specs.Division.{steps}
use Rattle.s2_bch.proofs.RegisterFacts.{halves_carried}
use Rattle.s2_bch.proofs.divider.carried_by_half.Goals as goal

pub returns : goal.returns
returns c t h =
    let low : ℕ = number_of t * 2 ^ (192 - length t) in
    let behind : ℕ = c.args.behind in
    let half : ℕ = c.args.half in
    let after : 8 * (behind + 2) + 16 ≡ 8 * behind + 32 = omega arith in
    let p : 176 + 16 ≡ 192 = omega arith in
    let q : 160 + 16 ≡ 176 = omega arith in
    let k : 8 * behind + 32 ≡ 16 + (8 * behind + 16) = omega arith in
    let whole : half ≡ half / 2 ^ 16 * 2 ^ 16 + half % 2 ^ 16 = omega arith in
    let fits : half % 2 ^ 16 < 2 ^ 16 = omega arith in
    c.plus.ensures
    ∙ halves_carried low 16 (8 * behind + 16) 176 160 (8 * behind + 32) half _ _ p q k (half / 2 ^ 16) (half % 2 ^ 16) whole fits
    (c.carried_by_pair-first.ensures t h ∙ ap (λ n. steps 192 low n (half / 2 ^ 16 * 2 ^ 176)) after)
    (c.carried_by_pair.ensures t h)
