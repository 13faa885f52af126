use Rattle.std.proofs.Common.{◌≡◌, ◌+◌, ◌*◌, ap, refl, ◌∙◌, arith}
use Rattle.std.specs.Prelude.{nat_le, if◌then◌else◌}
use Rattle.std.specs.List.{count_by, range_with_len}
use Rattle.s2_scan.specs.Strength.{is_below_root, root_of}
use Rattle.s2_scan.proofs.Totals.{count_more}
use Rattle.s2_scan.proofs.amplitude.rounded_root.Goals as goal

pub loop-k-init : goal.loop-k-init
loop-k-init c = record { is = refl; most = omega arith }

pub loop-k-preserved : goal.loop-k-preserved
loop-k-preserved c = record {
  is =
      let one = c.one_if-root.ensures.is ∙ ap (λ n. if nat_le n (4 * c.args.mean) then 1 else 0) c.from.ensures in
      (λ t. c.loop-k.invariant.is t + one t) ∙ count_more (is_below_root c.args.mean) c.loop-k.k;
  most = omega arith;
}

pub returns : goal.returns
unfolding root_of
returns c =
    let end : c.loop-k.k ≡ 46341 = omega arith in
    c.loop-k.invariant.is ∙ ap (λ n. count_by (is_below_root c.args.mean) (range_with_len 0 n)) end
