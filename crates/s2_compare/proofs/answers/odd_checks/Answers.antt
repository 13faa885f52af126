use Rattle.std.proofs.Common.{◌≡◌, ℕ, ◌%◌, ◌==◌, ◌<◌, List, Bool, length, count_by, subst, ap, ◌∙◌}
use Rattle.s2_bits.specs.Bits.{bit_at}
use Rattle.s2_matrix.specs.Code.{code_of, ones_in}
use Rattle.s2_compare.proofs.AnswerLemmas.{odd_count, refill_whole}
use Rattle.s2_compare.proofs.answers.odd_checks.Goals as goal

pub returns-clause-is : goal.returns-clause-is
returns-clause-is c =
    let code = code_of c.args.matrix.now in
    let odd : List Bool = c.odd_into.new.odd in
    let long : length odd ≡ length c.args.odd.now = c.odd_into.ensures.long ∙ ap length c.truths_mut.ensures.value in
    let are : (j : ℕ) → j < code.checks → bit_at odd j ≡ (ones_in code c.args.word.now j % 2 == 1) =
    subst (λ (word : List Bool). (j : ℕ) → j < code.checks → bit_at odd j ≡ (ones_in code word j % 2 == 1)) c.truths.ensures c.odd_into.ensures.are in
    c.count_ones.ensures ∙ ap (count_by (λ b. b)) (refill_whole (length c.args.odd.now) c.args.odd.now odd long) ∙ odd_count code c.args.word.now odd (long ∙ c.requires.odd) are
