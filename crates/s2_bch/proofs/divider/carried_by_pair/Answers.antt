use Rattle.std.proofs.Common.{arith, ◌≡◌, ◌∙◌, ◌+◌, ◌-◌, ◌*◌, ◌^◌, ◌<◌, ℕ, ap, length}
use Rattle.s2_bits.specs.Bits.{number_of}
use Rattle.s2_bch.specs.Division.{steps}
use Rattle.s2_bch.proofs.RegisterFacts.{halves_carried}
use Rattle.s2_bch.proofs.divider.carried_by_pair.Goals as goal

pub returns : goal.returns
returns c t h =
    let low : ℕ = number_of t * 2 ^ (192 - length t) in
    let behind : ℕ = c.args.behind in
    let first : ℕ = c.from-first.result in
    let second : ℕ = c.from-second.result in
    let after : 8 * (behind + 1) + 8 ≡ 8 * behind + 16 = omega arith in
    let p : 184 + 8 ≡ 192 = omega arith in
    let q : 176 + 8 ≡ 184 = omega arith in
    let k : 8 * behind + 16 ≡ 8 + (8 * behind + 8) = omega arith in
    let whole : c.args.pair ≡ first * 2 ^ 8 + second = omega (arith, c.from-first.ensures, c.from-second.ensures) in
    let high : first < 256 = omega (arith, c.from-first.ensures) in
    let fits : second < 256 = omega (arith, c.from-second.ensures) in
    c.plus.ensures
    ∙ halves_carried low 8 (8 * behind + 8) 184 176 (8 * behind + 16) c.args.pair _ _ p q k first second whole fits
    (h.entries (behind + 1) first (omega arith) high ∙ ap (λ n. steps 192 low n (first * 2 ^ 184)) after)
    (h.entries behind second (omega arith) fits)
