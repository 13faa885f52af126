use Rattle.std.proofs.Common.{arith, refl, sym, ap, ◌∙◌, ◌≡◌, ◌≢◌, ◌+◌, ◌<◌, suc, length, get_or-set_other, get_or-set_same, below_more}
use Rattle.s2_field.specs.Polynomials.{pow}
use Rattle.s2_bch.proofs.TermLemmas.{pow_last}
use Rattle.s2_bch.proofs.lanes.put_row.Goals as goal

pub loop-lane-init : goal.loop-lane-init
loop-lane-init g c =
    let laws = g.met.F.Field.laws in
    record {
      next = sym (laws.mul_one c.args.coefficient);
      row = λ k hk. absurd (omega arith);
      before = λ k hk. refl;
    }

pub loop-lane-preserved : goal.loop-lane-preserved
loop-lane-preserved g c =
    let f = g.F.Field in
    let laws = g.met.F.Field.laws in
    let v = c.loop-lane.invariant in
    let here : c.args.at + c.loop-lane.lane < length c.loop-lane.terms = omega arith in
    let power = pow f.field c.args.ratio c.loop-lane.lane in
    let up : suc c.loop-lane.lane ≡ c.loop-lane.lane + 1 = omega arith in
    record {
      next = c.mul-term.ensures
          ∙ ap (λ u. f.field.product u c.args.ratio) v.next
          ∙ laws.mul_assoc c.args.coefficient power c.args.ratio
          ∙ ap (f.field.product c.args.coefficient) (pow_last f.field laws c.args.ratio c.loop-lane.lane
          ∙ ap (pow f.field c.args.ratio) up);
      row = below_more _ _
          (λ k hk. let ne : c.args.at + k ≢ c.args.at + c.loop-lane.lane = omega arith in rw get_or-set_other (v.row k hk))
          (rw get_or-set_same v.next);
      before = λ k hk. let ne : k ≢ c.args.at + c.loop-lane.lane = omega arith in rw get_or-set_other (v.before k hk);
    }

pub returns-clause-row : goal.returns-clause-row
returns-clause-row g c l hl = c.loop-lane.invariant.row l (omega arith)

pub returns-clause-before : goal.returns-clause-before
returns-clause-before g c k hk = c.loop-lane.invariant.before k hk
