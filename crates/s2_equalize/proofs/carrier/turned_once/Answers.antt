use Rattle.std.proofs.Common.{◌*◌, ◌^◌, sym, ap, subst, ◌∙◌, arith}
use Rattle.s2_equalize.specs.Complex.{IsWithin, over, times}
use Rattle.s2_equalize.proofs.Sizes.{over_within, times_within, within_more}
use Rattle.s2_equalize.proofs.carrier.turned_once.Goals as goal

pub over-requires-clause-size : goal.over-requires-clause-size
over-requires-clause-size c =
    subst (IsWithin (2 ^ 61)) (sym c.times.ensures)
    (within_more (2 * (2 ^ 22 * 32768)) (2 ^ 61) (times c.args.a c.args.turn) (omega arith) (times_within (2 ^ 22) 32768 c.args.a c.args.turn c.requires.a c.requires.turn))

pub returns-clause-most : goal.returns-clause-most
returns-clause-most c = λ m within.
    let product = times c.args.a c.args.turn in
    subst (IsWithin (2 * m)) (sym (c.over.ensures ∙ ap (over 32768) c.times.ensures))
    (over_within 32768 (2 * m) product (omega arith) (within_more (2 * (m * 32768)) (2 * m * 32768) product (omega arith) (times_within m 32768 c.args.a c.args.turn within c.requires.turn)))
