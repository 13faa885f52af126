use Rattle.std.proofs.Common.{arith, ap, ap₂, ◌∙◌, ◌≡◌, ◌+◌, ◌*◌, ◌<◌, ℕ, suc, length, below_more}
use Rattle.std.proofs.lemmas.List.{get_or_read}
use Rattle.s2_field.specs.Polynomials.{pow}
use Rattle.s2_bch.proofs.TermLemmas.{pow_last, pow_swap}
use Rattle.s2_bch.proofs.lanes.put_terms.Goals as goal

pub loop-j-init : goal.loop-j-init
loop-j-init g c = record {
  next = c.one-ratio.ensures;
  rows = λ k hk. absurd (omega arith);
}

pub loop-j-preserved : goal.loop-j-preserved
loop-j-preserved g c =
    let f = g.F.Field in
    let laws = g.met.F.Field.laws in
    let v = c.loop-j.invariant in
    let j : ℕ = c.loop-j.j in
    let polynomial = c.args.polynomial.now in
    let here : j < length polynomial = omega arith in
    let up : suc j ≡ j + 1 = omega arith in
    let read = get_or_read polynomial j c.index-polynomial-j.result here c.index-polynomial-j.is f.field.zero in
    record {
      next = c.mul-ratio.ensures
          ∙ ap (λ u. f.field.product u c.args.x) v.next
          ∙ pow_last f.field laws c.args.x j
          ∙ ap (pow f.field c.args.x) up;
      rows = below_more _ _
          (λ k hk m hm. c.put_row.ensures.before (16 * k + m) (omega arith) ∙ v.rows k hk m hm)
          (λ m hm. c.put_row.ensures.row m hm
          ∙ ap₂ f.field.product read (ap (λ u. pow f.field u m) v.next
          ∙ pow_swap f.field laws c.args.x j m));
    }

pub returns : goal.returns
returns g c = record { each = λ j l hj hl. c.loop-j.invariant.rows j (omega arith) l hl }
