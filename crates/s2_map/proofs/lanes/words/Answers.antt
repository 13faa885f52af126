use Rattle.std.proofs.Common.{ℕ, ◌+◌, List, [], ◌∷◌, ◌++◌, sym, subst, ◌∙◌, w16}
use Rattle.std.proofs.lemmas.Simd.{swz_l, SwzOk}
use lib.Lanes.{pick_l}
use Rattle.s2_bits.specs.Bits.{bit_at}
use Rattle.s2_map.specs.declared.lanes.TheConstants.{I, Q}
use Rattle.s2_map.proofs.Eights.{labels_ok, i_words, q_words}
use Rattle.s2_map.proofs.lanes.words.Goals as goal

pub swizzle-i : goal.swizzle-i
swizzle-i c =
    let at = c.args.at in
    subst (SwzOk w16 8 8 0) (sym c.labels-labels.ensures) (labels_ok (λ k. bit_at c.args.first.now (at + k)) (λ k. bit_at c.args.second.now (at + k)) (λ k. bit_at c.args.third.now (at + k)))

pub swizzle-q : goal.swizzle-q
swizzle-q c =
    let at = c.args.at in
    subst (SwzOk w16 8 8 0) (sym c.labels-labels.ensures) (labels_ok (λ k. bit_at c.args.first.now (at + k)) (λ k. bit_at c.args.second.now (at + k)) (λ k. bit_at c.args.third.now (at + k)))

-- the lanes of both in turn
abbrev pairs : List ℕ → List ℕ → List ℕ
pairs is qs = pick_l 0 (is ++ qs) (0 ∷ 8 ∷ 1 ∷ 9 ∷ 2 ∷ 10 ∷ 3 ∷ 11 ∷ 4 ∷ 12 ∷ 5 ∷ 13 ∷ 6 ∷ 14 ∷ 7 ∷ 15 ∷ [])

pub returns : goal.returns
returns c =
    let at = c.args.at in
    let first = λ (k : ℕ). bit_at c.args.first.now (at + k) in
    let second = λ (k : ℕ). bit_at c.args.second.now (at + k) in
    let third = λ (k : ℕ). bit_at c.args.third.now (at + k) in
    let is = (λ t. swz_l w16 8 I 0 (c.labels-labels.ensures t)) ∙ i_words first second third in
    let qs = (λ t. swz_l w16 8 Q 0 (c.labels-labels.ensures t)) ∙ q_words first second third in
    λ t. pairs (is t) (qs t)
