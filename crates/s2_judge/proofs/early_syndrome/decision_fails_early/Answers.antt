use Rattle.std.proofs.Common.{◌≡◌, ◌%◌, ◌<◌, ℕ, eqb-true, All, count_by, pos, int_lt, sym, ap, subst, ◌∙◌, arith}
use Rattle.s2_bits.specs.Bits.{bit_at}
use Rattle.s2_rows.specs.Rows.{Rows}
use Rattle.s2_matrix.specs.Code.{code_of, ones_in}
use Rattle.s2_minsum.specs.Plain.{posterior, decision}
use Rattle.s2_minsum.specs.Decoding.{decoded}
use Rattle.s2_judge.proofs.EarlyRepairLemmas.{ones_mapped}
use Rattle.s2_judge.proofs.early_syndrome.decision_fails_early.Goals as goal

pub is_odd-requires : goal.is_odd-requires
is_odd-requires c = subst (λ (q : Rows). All (λ i. i < (code_of q).bits) c.members_at.result.now) (sym c.requires) c.members_at.ensures.below

pub returns-then-is_odd : goal.returns-then-is_odd
returns-then-is_odd c = λ _ codeword.
    let r = c.args.matrix.now in
    let d = c.args.decoder.now in
    let j = c.loop-check.check in
    let places = c.members_at.result.now in
    let negative = λ (i : ℕ). int_lt (posterior (code_of d.rows) (decoded d) i) (pos 0) in
    let word = decision (code_of d.rows) (decoded d) in
    let even = codeword.even j (omega arith) in
    let below = subst (λ (q : Rows). All (λ i. i < (code_of q).bits) places) (sym c.requires) c.members_at.ensures.below in
    let count : count_by negative places ≡ ones_in (code_of r) word j = ones_mapped negative (code_of d.rows).bits places below ∙ ap (count_by (bit_at word)) c.members_at.ensures.are in
    let odd : count_by negative places % 2 ≡ 1 = eqb-true (count_by negative places % 2) 1 (sym c.is_odd.ensures ∙ c.if-is_odd.true) in
    omega (arith, even, odd, count)
