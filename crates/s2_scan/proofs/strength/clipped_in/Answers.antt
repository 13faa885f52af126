use Rattle.std.proofs.Common.{◌≡◌, ◌+◌, ◌/◌, length, ap, refl, ◌∙◌, arith}
use Rattle.std.specs.Prelude.{if◌then◌else◌}
use Rattle.std.specs.List.{count_by, range_with_len}
use Rattle.s2_scan.specs.Strength.{clipped_in, is_clipped}
use Rattle.s2_scan.proofs.Totals.{count_more}
use Rattle.s2_scan.proofs.strength.clipped_in.Goals as goal

pub loop-place-init : goal.loop-place-init
loop-place-init c = record { is = refl; most = omega arith }

pub loop-place-preserved : goal.loop-place-preserved
loop-place-preserved c = record {
  is =
      let one = c.one_if-count.ensures.is ∙ ap (λ b. if b then 1 else 0) c.is_clipped.ensures in
      (λ t. c.loop-place.invariant.is t + one t) ∙ count_more (is_clipped c.args.little c.args.bytes.now) c.loop-place.place;
  most = omega arith;
}

pub returns : goal.returns
unfolding clipped_in
returns c =
    let end : c.loop-place.place ≡ length c.args.bytes.now / 4 = omega arith in
    c.loop-place.invariant.is ∙ ap (λ n. count_by (is_clipped c.args.little c.args.bytes.now) (range_with_len 0 n)) end
