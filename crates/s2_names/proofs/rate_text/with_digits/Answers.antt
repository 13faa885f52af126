use Rattle.std.proofs.Common.{sym, arith}
use Rattle.std.proofs.lemmas.Bool.{cond-false}
use Rattle.s2_names.proofs.DigitTexts.{too_large}
use Rattle.s2_names.proofs.rate_text.with_digits.Goals as goal

pub returns-then-all-gt-MAX_RATE : goal.returns-then-all-gt-MAX_RATE
returns-then-all-gt-MAX_RATE c =
    sym (cond-false _ _ _ (too_large c.args.digits.now c.digits.digit-index c.digits.all _ c.digits.invariant.1 c.digits-test.true (omega (arith, c.from.ensures, c.if-all-gt-MAX_RATE.true))))
