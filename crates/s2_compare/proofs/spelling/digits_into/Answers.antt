use Rattle.std.proofs.Common.{arith}
use Rattle.s2_compare.proofs.SpellingLemmas.{all_digits, no_digit}
use Rattle.s2_compare.proofs.spelling.digits_into.Goals as goal

pub returns-then-digits-i-ne49-clause-none : goal.returns-then-digits-i-ne49-clause-none
returns-then-digits-i-ne49-clause-none c = λ said bits same.
    no_digit c.args.digits.now bits c.digits.i (omega (arith, c.digits-test.true)) c.if-digits-i-ne48.true c.if-digits-i-ne49.true same

pub returns-clause-are : goal.returns-clause-are
returns-clause-are c = λ said. all_digits c.args.digits.now c.digits.word c.digits.invariant.size (λ k low. c.digits.invariant.each k (omega (arith, low, c.digits-test.false)))
