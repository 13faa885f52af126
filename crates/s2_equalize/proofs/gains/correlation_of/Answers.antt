use Rattle.std.proofs.Common.{◌^◌, sym, subst, ◌∙◌, arith, ap₂}
use Rattle.s2_equalize.specs.Bounds.{correlation_bound}
use Rattle.s2_equalize.specs.Complex.{IsWithin, number_of, times_conjugate}
use Rattle.s2_equalize.proofs.Sizes.{times_conjugate_within, within_more}
use Rattle.s2_equalize.proofs.gains.correlation_of.Goals as goal

pub times_conjugate-requires : goal.times_conjugate-requires
times_conjugate-requires c = record {
  a = within_more 32768 (2 ^ 30) c.number_of.result (omega arith) c.number_of.ensures.most;
  b = within_more 32768 (2 ^ 30) c.number_of-2.result (omega arith) c.number_of-2.ensures.most;
}

pub returns-clause-is : goal.returns-clause-is
returns-clause-is c = c.times_conjugate.ensures ∙ ap₂ times_conjugate c.number_of.ensures.is c.number_of-2.ensures.is

pub returns-clause-most : goal.returns-clause-most
returns-clause-most c =
    let r = number_of c.args.received in
    let s = number_of c.args.sent in
    let received : IsWithin 32768 r = subst (IsWithin 32768) c.number_of.ensures.is c.number_of.ensures.most in
    let sent : IsWithin 700 s = record { re = c.requires.i; im = c.requires.q } in
    subst (IsWithin correlation_bound) (sym (returns-clause-is c)) (times_conjugate_within 32768 700 r s received sent)
