use Rattle.std.proofs.Common.{◌≡◌, ap, sym, fold, ◌∙◌, arith}
use Rattle.s2_mode.specs.Shape.{Shape}
use Rattle.s2_matrix.specs.Total.{upto}
use Rattle.s2_settle.specs.Layer.{Held, layer}
use Rattle.s2_settle.proofs.Layers.{pass_more}
use Rattle.s2_settle.proofs.passes.run_pass.Goals as goal

pub loop-r-preserved : goal.loop-r-preserved
loop-r-preserved c =
    let rows = c.args.matrix.now in
    let step = c.args.step in
    let r = c.loop-r.r in
    record {
      long = c.layer.ensures.long;
      is = c.layer.ensures.is ∙ ap (λ (x : Held). layer rows step x r) c.loop-r.invariant.is ∙ sym (pass_more rows step r c.args.held.now);
    }

pub returns-clause-is : goal.returns-clause-is
returns-clause-is c =
    let rows = c.args.matrix.now in
    let q = c.q-q.ensures.is ∙ ap (λ (s : Shape). s.q) c.shape.ensures.is in
    let all : c.loop-r.r ≡ rows.shape.q = omega (arith, q) in
    c.loop-r.invariant.is ∙ ap (λ x. fold (layer rows c.args.step) c.args.held.now (upto x)) all
