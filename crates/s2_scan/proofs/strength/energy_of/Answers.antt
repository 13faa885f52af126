use Rattle.std.proofs.Common.{◌≡◌, ◌+◌, ◌/◌, length, ap, refl, ◌∙◌, arith}
use Rattle.std.specs.List.{range_with_len, sum_by}
use Rattle.s2_scan.specs.Strength.{energy_at}
use Rattle.s2_scan.proofs.Totals.{total_more}
use Rattle.s2_scan.proofs.strength.energy_of.Goals as goal

pub loop-k-init : goal.loop-k-init
loop-k-init c = record { is = refl; most = omega arith }

pub loop-k-preserved : goal.loop-k-preserved
loop-k-preserved c = record {
  is =
      let one = c.from-energy.ensures ∙ c.energy_at.ensures in
      (λ t. c.loop-k.invariant.is t + one t) ∙ total_more (energy_at c.args.little c.args.bytes.now) c.loop-k.k;
  most = omega arith;
}

pub returns-clause-is : goal.returns-clause-is
returns-clause-is c =
    let end : c.loop-k.k ≡ length c.args.bytes.now / 4 = omega arith in
    c.loop-k.invariant.is ∙ ap (λ n. sum_by (energy_at c.args.little c.args.bytes.now) (range_with_len 0 n)) end
