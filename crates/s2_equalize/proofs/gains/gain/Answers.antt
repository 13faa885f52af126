use Rattle.std.proofs.Common.{◌*◌, ◌^◌, sym, ap, subst, ◌∙◌, arith}
use Rattle.s2_equalize.specs.Bounds.{correlation_bound, gain_bound}
use Rattle.s2_equalize.specs.Complex.{IsWithin, over, scaled}
use Rattle.s2_equalize.specs.Gains.{gain_of}
use Rattle.s2_equalize.proofs.Sizes.{over_within, scaled_within, within_more}
use Rattle.s2_equalize.proofs.gains.gain.Goals as goal

pub returns-clause-is : goal.returns-clause-is
unfolding gain_of
returns-clause-is c = c.over.ensures ∙ ap (over (980000 * c.args.n)) (c.scaled.ensures ∙ ap (scaled 1024) c.correlation.ensures.is)

pub scaled-requires : goal.scaled-requires
scaled-requires c = let most = c.correlation.ensures.most in record { few = omega arith; re = omega (arith, most.re); im = omega (arith, most.im) }

pub over-requires : goal.over-requires
over-requires c =
    let most = c.correlation.ensures.most in
    record {
      some = omega arith;
      few = omega arith;
      size = subst (IsWithin (2 ^ 61)) (sym c.scaled.ensures)
          (within_more (1024 * (correlation_bound * c.args.n)) (2 ^ 61) (scaled 1024 c.correlation.result) (omega arith) (scaled_within 1024 (correlation_bound * c.args.n) c.correlation.result most));
    }

pub returns-clause-most : goal.returns-clause-most
returns-clause-most c =
    let n = c.args.n in
    let all = within_more (1024 * (correlation_bound * n)) (gain_bound * (980000 * n)) (scaled 1024 c.correlation.result) (omega arith)
    (scaled_within 1024 (correlation_bound * n) c.correlation.result c.correlation.ensures.most) in
    subst (IsWithin gain_bound) (sym (c.over.ensures ∙ ap (over (980000 * n)) c.scaled.ensures)) (over_within (980000 * n) gain_bound (scaled 1024 c.correlation.result) (omega arith) all)
