use Rattle.std.proofs.Common.{◌≡◌, ℕ, ◌+◌, ◌*◌, List, ◌++◌, ap, ◌∙◌, arith}
use Rattle.std.specs.List.{range_with_len}
use lib.Lanes.{pick_l}
use Rattle.s2_bits.specs.Lanes.{eight}
use Rattle.s2_matrix.proofs.Blocks.{eight_pieces}
use Rattle.s2_matrix.proofs.transpose.put.Goals as goal

-- lanes from a place on
abbrev cut : ℕ → List ℕ → List ℕ
cut a v = pick_l 0 (v ++ v) (range_with_len a 8)

pub returns : goal.returns
returns c f is =
    let at = c.args.at in
    let q = c.args.q in
    let none : at + 0 * q ≡ at = omega arith in
    let one : at + 1 * q ≡ at + q = omega arith in
    eight_pieces f at q _ _ _ _ _ _ _ _ _
    (c.store.ensures f (ap (cut 0) is ∙ (λ t. eight (λ r. f (none t + r)))))
    (c.store-2.ensures f (ap (cut 8) is ∙ (λ t. eight (λ r. f (one t + r)))))
    (c.store-3.ensures f (ap (cut 16) is))
    (c.store-4.ensures f (ap (cut 24) is))
    (c.store-5.ensures f (ap (cut 32) is))
    (c.store-6.ensures f (ap (cut 40) is))
    (c.store-7.ensures f (ap (cut 48) is))
    (c.store-8.ensures f (ap (cut 56) is))
