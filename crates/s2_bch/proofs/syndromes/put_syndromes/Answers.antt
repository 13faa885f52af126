use Rattle.std.proofs.Common.{arith, ◌≡◌, ◌≢◌, ◌+◌, ◌<◌, suc, length, get_or-set_other, get_or-set_same, below_more, ◌∙◌, ap}
use Rattle.s2_bch.specs.Values.{value_at}
use Rattle.s2_field.specs.Polynomials.{pow}
use Rattle.s2_bch.proofs.syndromes.put_syndromes.Goals as goal

pub loop-j-preserved : goal.loop-j-preserved
loop-j-preserved g c =
    let f = g.F.Field in
    let lt : c.loop-j.j < length c.loop-j.syndromes = omega arith in
    let e : c.loop-j.j + 1 ≡ suc c.loop-j.j = omega arith in
    below_more _ _
    (λ k h. let ne : k ≢ c.loop-j.j = omega arith in rw get_or-set_other (c.loop-j.invariant k h))
    (rw get_or-set_same
    (c.evaluate_word.ensures ∙ ap (λ n. value_at f.field c.args.word.now (pow f.field f.alpha n)) e))
