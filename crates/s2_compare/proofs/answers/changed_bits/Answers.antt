use Rattle.std.proofs.Common.{sym, ◌∙◌, arith}
use Rattle.s2_compare.proofs.AnswerLemmas.{same_word, other_word}
use Rattle.s2_compare.proofs.answers.changed_bits.Goals as goal

pub returns-clause-none : goal.returns-clause-none
returns-clause-none c = λ none.
    same_word c.bits.i c.args.word.now c.args.view.now.bits (omega (arith, c.bits-test.false, c.bits.auto.i-end, c.len-i-end.ensures))
    (c.requires ∙ sym c.shape-valid.ensures.valid.bits_long) (sym c.bits.invariant.1 ∙ none)

pub returns-clause-some : goal.returns-clause-some
returns-clause-some c = λ some. other_word c.bits.i c.args.word.now c.args.view.now.bits (λ zero'. some (c.bits.invariant.1 ∙ zero'))
