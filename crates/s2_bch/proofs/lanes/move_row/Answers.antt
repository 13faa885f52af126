use Rattle.std.proofs.Common.{arith, refl, ap, ap₂, ◌∙◌, ◌≡◌, ◌≢◌, ◌+◌, ◌<◌, ℕ, length, get_or, get_or-set_other, get_or-set_same, below_more}
use Rattle.std.proofs.lemmas.List.{get_or_read}
use Rattle.s2_field.specs.Polynomials.{pow}
use Rattle.s2_bch.proofs.lanes.move_row.Goals as goal

pub loop-lane-init : goal.loop-lane-init
loop-lane-init g c = record {
  summed = λ k hk. absurd (omega arith);
  moved = λ k hk. absurd (omega arith);
  unsummed = λ k hk. refl;
  before = λ k hk. refl;
  behind = λ k hk. refl;
}

pub loop-lane-preserved : goal.loop-lane-preserved
loop-lane-preserved g c =
    let f = g.F.Field in
    let v = c.loop-lane.invariant in
    let lane : ℕ = c.loop-lane.lane in
    let here : c.args.at + lane < length c.loop-lane.terms = omega arith in
    let there : lane < length c.loop-lane.values = omega arith in
    let term = c.index-terms-at.result in
    let is : term ≡ get_or c.args.terms.now (c.args.at + lane) f.field.zero =
    get_or_read c.loop-lane.terms (c.args.at + lane) term here c.index-terms-at.is f.field.zero ∙ v.behind (c.args.at + lane) (omega arith) in
    let value = c.index-values-lane.result in
    let read : value ≡ get_or c.args.values.now lane f.field.zero =
    get_or_read c.loop-lane.values lane value there c.index-values-lane.is f.field.zero ∙ v.unsummed lane (omega arith) in
    record {
      summed = below_more _ _
          (λ k hk. let ne : k ≢ lane = omega arith in rw get_or-set_other (v.summed k hk))
          (rw get_or-set_same (c.add.ensures ∙ ap₂ f.field.sum read is));
      moved = below_more _ _
          (λ k hk. let ne : c.args.at + k ≢ c.args.at + lane = omega arith in rw get_or-set_other (v.moved k hk))
          (rw get_or-set_same (c.times_power.ensures ∙ ap (f.field.product (pow f.field f.alpha c.args.power)) is));
      unsummed = λ k hk. let ne : k ≢ lane = omega arith in rw get_or-set_other (v.unsummed k (omega arith));
      before = λ k hk. let ne : k ≢ c.args.at + lane = omega arith in rw get_or-set_other (v.before k hk);
      behind = λ k hk. let ne : k ≢ c.args.at + lane = omega arith in rw get_or-set_other (v.behind k (omega arith));
    }

pub returns-clause-values : goal.returns-clause-values
returns-clause-values g c l hl = c.loop-lane.invariant.summed l (omega arith)

pub returns-clause-moved : goal.returns-clause-moved
returns-clause-moved g c l hl = c.loop-lane.invariant.moved l (omega arith)

pub returns-clause-before : goal.returns-clause-before
returns-clause-before g c k hk = c.loop-lane.invariant.before k hk

pub returns-clause-behind : goal.returns-clause-behind
returns-clause-behind g c k hk = c.loop-lane.invariant.behind k (omega arith)
