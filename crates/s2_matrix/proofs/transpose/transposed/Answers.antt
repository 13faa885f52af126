use Rattle.std.proofs.Common.{◌≡◌, ℕ, ◌+◌, ◌*◌, List, ◌++◌, ◌∙◌, arith}
use lib.Lanes.{pick_l}
use Rattle.s2_bits.specs.Bits.{bit_at}
use Rattle.s2_bits.specs.Lanes.{eight}
use Rattle.s2_matrix.specs.declared.transpose.TheConstants.{PAIRS, FOURS, EIGHTS}
use Rattle.s2_matrix.proofs.transpose.transposed.Goals as goal

abbrev shuffled : List ℕ → List ℕ → List ℕ → List ℕ
shuffled positions a b = pick_l 0 (a ++ b) positions

abbrev fours : List ℕ → List ℕ → List ℕ → List ℕ → List ℕ
fours a b c d = shuffled FOURS (shuffled PAIRS a b) (shuffled PAIRS c d)

pub returns : goal.returns
returns c =
    let at = c.args.at in
    let group = c.args.group in
    let planes = c.args.planes.now in
    let none : at ≡ at + 0 * group = omega arith in
    let one : at + group ≡ at + 1 * group = omega arith in
    let first = c.eight_from-first.ensures ∙ (λ t. eight (λ l. bit_at planes (none t + l))) in
    let second = c.eight_from-second.ensures ∙ (λ t. eight (λ l. bit_at planes (one t + l))) in
    let third = c.eight_from-third.ensures in
    let fourth = c.eight_from-fourth.ensures in
    let fifth = c.eight_from-fifth.ensures in
    let sixth = c.eight_from-sixth.ensures in
    let seventh = c.eight_from-seventh.ensures in
    let eighth = c.eight_from-eighth.ensures in
    λ t. shuffled EIGHTS (fours (first t) (fifth t) (third t) (seventh t)) (fours (second t) (sixth t) (fourth t) (eighth t))
