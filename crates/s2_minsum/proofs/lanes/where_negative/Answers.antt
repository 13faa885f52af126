use Rattle.std.proofs.Common.{◌==◌, cond, get_or, ◌∙◌}
use Rattle.s2_minsum.proofs.lanes.where_negative.Goals as goal

pub returns : goal.returns
returns g c = record {
  long = c.where_same.ensures.long;
  each = λ k lt. c.where_same.ensures.each k lt ∙ (λ i. cond (c.sign.ensures.each k lt i == c.all.ensures.each k lt i) (get_or c.args.x k 0) (get_or c.args.y k 0));
}
