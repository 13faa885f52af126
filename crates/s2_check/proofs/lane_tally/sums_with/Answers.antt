use Rattle.std.proofs.Common.{◌≡◌, ℕ, ◌+◌, ◌%◌, ◌^◌, length, map, get_or, ap, ◌∙◌, arith}
use Rattle.std.proofs.lemmas.List.{get_or-map, length-map}
use Rattle.s2_bits.proofs.Unsigned.{operator}
use Rattle.s2_check.proofs.lane_tally.sums_with.Goals as goal

pub returns : goal.returns
returns c =
    let words = map (λ (x : ℕ). x) c.args.words in
    let long : length words ≡ 4 = length-map c.args.words (λ x. x) ∙ c.fits-words.0 in
    let h = operator 4 (λ a b. (a + b) % 2 ^ 64) c.args.sums words c.fits-sums.0 long in
    record { long = h.long; each = λ k lt. h.each k lt ∙ ap (λ x. (get_or c.args.sums k 0 + x) % 2 ^ 64) (get_or-map (λ x. x) c.args.words k 0 0 (omega (arith, c.fits-words.0))) }
