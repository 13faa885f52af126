use Rattle.std.proofs.Common.{arith, refl, sym, ap, subst, ◌∙◌, ◌≡◌, ◌+◌, ◌*◌, ◌/◌, ℕ, suc, List, length}
use Rattle.std.specs.Prelude.{Bool}
use Rattle.s2_field.specs.Polynomials.{pow}
use Rattle.s2_bch.proofs.TermLemmas.{pow_times, terms_along}
use Rattle.s2_bch.proofs.Places.{AreSearched, search_start, search_end, step_kept, step_turned, lanes_left}
use Rattle.s2_bch.proofs.Distances.{distance_most}
use Rattle.s2_bch.proofs.chien.chien_search.Goals as goal
use Rattle.s2_bch.proofs.chien.chien_search.Goals.{then-found, else-found}

pub loop-step-init : goal.loop-step-init
loop-step-init g c =
    let f = g.F.Field in
    let laws = g.met.F.Field.laws in
    let stride : ℕ = length c.args.word.now / 16 + 1 in
    let power = pow f.field in
    record {
      room = omega (arith, c.put_terms.auto.terms, c.requires.room);
      lanes = c.requires.lanes;
      terms = terms_along f.field laws c.args.locator.now (power c.pow.result) (λ k. power f.alpha (stride * k + 0))
          c.put_terms.new.terms
          (λ k hk.
          let e : stride * k ≡ stride * k + 0 = omega arith in
          ap (λ x. power x k) (c.pow.ensures ∙ ap (λ x. power x stride) c.alpha.ensures)
          ∙ pow_times f.field laws f.alpha stride k
          ∙ ap (power f.alpha) e)
          c.put_terms.ensures;
      searched = search_start f.field f.alpha c.args.locator.now stride c.args.word.now;
    }

pub overflow_add-count : goal.overflow_add-count
overflow_add-count g c =
    let f = g.F.Field in
    let old = c.args.word.now in
    let stride : ℕ = length old / 16 + 1 in
    let D = c.loop-step.invariant.searched in
    let size = D.size in
    let values = c.advance.ensures.values c.args.locator.now _ refl c.loop-step.invariant.terms in
    let left = lanes_left f.field f.alpha c.args.locator.now stride old c.loop-step.step c.loop-step.count c.loop-step.word D
    c.advance.new.values values (omega arith) (omega arith) in
    let further = c.flip_lanes-count.ensures.count old (sym size) left in
    let most = distance_most old c.flip_lanes-count.new.word in
    let counted = D.counted in
    omega (arith, further, most, counted, c.requires.short)

pub loop-step-preserved : goal.loop-step-preserved
loop-step-preserved g c =
    let f = g.F.Field in
    let laws = g.met.F.Field.laws in
    let locator = c.args.locator.now in
    let old = c.args.word.now in
    let now = c.loop-step.word in
    let stride : ℕ = length old / 16 + 1 in
    let step : ℕ = c.loop-step.step in
    let power = pow f.field f.alpha in
    let v = c.loop-step.invariant in
    let D = v.searched in
    let values = c.advance.ensures.values locator (λ k. power (stride * k + step)) refl v.terms in
    let done : ℕ → List Bool → Type 0 = AreSearched f.field f.alpha locator stride old (step + 1) in
    record {
      room = omega (arith, c.advance.auto.terms, v.room);
      lanes = omega (arith, c.advance.auto.values, v.lanes);
      terms = terms_along f.field laws locator (λ k. f.field.product f.alpha (power (stride * k + step)))
          (λ k. power (stride * k + (step + 1))) c.advance.new.terms
          (λ k hk. let e : suc (stride * k + step) ≡ stride * k + (step + 1) = omega arith in ap power e)
          (c.advance.ensures.terms locator (λ k. power (stride * k + step)) refl v.terms);
      searched =
          elim c.if-found.branch [
            | then-found w ↦
                let left = lanes_left f.field f.alpha locator stride old step c.loop-step.count now D
                c.advance.new.values values (omega arith) (omega arith) in
                let e = w.flip_lanes-count.ensures in
                subst (λ n. done n c.if-found.word) (sym w.count-is)
                (subst (done (c.loop-step.count + w.flip_lanes-count.result)) (sym w.word-is)
                (step_turned f.field f.alpha locator stride old step c.loop-step.count now D
                c.advance.new.values values (omega arith) (omega arith)
                w.flip_lanes-count.new.word w.flip_lanes-count.result w.flip_lanes-count.auto.word e.hit e.miss e.others
                (e.count old (sym D.size) left)))
            | else-found w ↦
                subst (λ n. done n c.if-found.word) (sym w.count-is)
                (subst (done c.loop-step.count) (sym w.word-is)
                (step_kept f.field f.alpha locator stride old step c.loop-step.count now D
                c.advance.new.values values (omega arith) (omega arith) (c.has_zero-found.ensures w.if-found.false)))
          ];
    }

pub returns-clause-flips : goal.returns-clause-flips
returns-clause-flips g c =
    let f = g.F.Field in
    search_end f.field f.alpha c.args.locator.now (length c.args.word.now / 16 + 1) c.args.word.now
    c.loop-step.step c.loop-step.count c.loop-step.word (omega arith) (omega arith) c.loop-step.invariant.searched

pub returns-clause-count : goal.returns-clause-count
returns-clause-count g c = c.loop-step.invariant.searched.counted
