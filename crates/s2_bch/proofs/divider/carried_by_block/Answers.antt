use Rattle.std.proofs.Common.{arith, ◌≡◌, ◌∙◌, ◌+◌, ◌-◌, ◌*◌, ◌/◌, ◌%◌, ◌^◌, ◌<◌, ℕ, length}
use Rattle.s2_bits.specs.Bits.{number_of}
use Rattle.s2_bch.proofs.RegisterFacts.{halves_carried}
use Rattle.s2_bch.proofs.divider.carried_by_block.Goals as goal

pub returns : goal.returns
returns c t h =
    let low : ℕ = number_of t * 2 ^ (192 - length t) in
    let block : ℕ = c.args.block in
    let p : 160 + 32 ≡ 192 = omega arith in
    let q : 128 + 32 ≡ 160 = omega arith in
    let k : 64 ≡ 32 + 32 = omega arith in
    let whole : block ≡ block / 2 ^ 32 * 2 ^ 32 + block % 2 ^ 32 = omega arith in
    let fits : block % 2 ^ 32 < 2 ^ 32 = omega arith in
    c.plus.ensures
    ∙ halves_carried low 32 32 160 128 64 block _ _ p q k (block / 2 ^ 32) (block % 2 ^ 32) whole fits
    (c.carried_by_half-first.ensures t h)
    (c.carried_by_half.ensures t h)
