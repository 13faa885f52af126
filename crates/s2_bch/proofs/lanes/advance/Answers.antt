use Rattle.std.proofs.Common.{arith, refl, sym, ap, ap₂, ◌∙◌, ◌+◌, ◌*◌, ℕ, get_or, below_more}
use Rattle.std.proofs.lemmas.List.{take_all}
use Rattle.s2_field.specs.Polynomials.{pow, eval}
use Rattle.s2_bch.proofs.TermLemmas.{eval_next, moved_term}
use Rattle.s2_bch.proofs.lanes.advance.Goals as goal

pub loop-j-init : goal.loop-j-init
loop-j-init g c =
    let f = g.F.Field in
    record {
      size = refl;
      moved = λ k hk. absurd (omega arith);
      left = λ k hk. refl;
      summed = λ h x long are m hm. c.clear.ensures m hm;
    }

pub loop-j-preserved : goal.loop-j-preserved
loop-j-preserved g c =
    let f = g.F.Field in
    let laws = g.met.F.Field.laws in
    let v = c.loop-j.invariant in
    let j : ℕ = c.loop-j.j in
    record {
      size = omega (arith, v.size, c.move_row.auto.terms);
      moved = below_more _ _
          (λ k hk m hm. c.move_row.ensures.before (16 * k + m) (omega arith) ∙ v.moved k hk m hm)
          (λ m hm. c.move_row.ensures.moved m hm ∙ ap (f.field.product (pow f.field f.alpha j)) (v.left (16 * j + m) (omega arith)));
      left = λ k hk. c.move_row.ensures.behind k (omega arith) ∙ v.left k (omega arith);
      summed = λ h x long are m hm.
          c.move_row.ensures.values m hm
          ∙ ap₂ f.field.sum (v.summed h x long are m hm) (v.left (16 * j + m) (omega arith) ∙ are.each j m (omega arith) hm)
          ∙ sym (eval_next f.field laws h (x m) j (omega arith));
    }

pub returns-clause-values : goal.returns-clause-values
returns-clause-values g c h x long are l hl =
    let f = g.F.Field in
    c.loop-j.invariant.summed h x long are l hl
    ∙ ap (λ u. eval f.field u (x l)) (take_all c.loop-j.j h (omega arith))

pub returns-clause-terms : goal.returns-clause-terms
returns-clause-terms g c h x long are =
    let f = g.F.Field in
    let laws = g.met.F.Field.laws in
    record {
      each = λ j l hj hl.
          c.loop-j.invariant.moved j (omega arith) l hl
          ∙ ap (f.field.product (pow f.field f.alpha j)) (are.each j l hj hl)
          ∙ moved_term f.field laws f.alpha (get_or h j f.field.zero) (x l) j;
    }
