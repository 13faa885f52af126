use Rattle.std.proofs.Common.{arith, ◌≡◌, ◌+◌, ◌++◌, ℕ, List, length, ◌∙◌, ap, slice_index_or, sym, subst, take, take-take, ◌^◌, ◌≤◌, length-take}
use Rattle.std.proofs.Math.Seq.{take-append_seam}
use Rattle.s2_bch.specs.Values.{HasRoots}
use Rattle.s2_bch.specs.Flips.{FlipsRoots}
use Rattle.s2_bch.specs.Splitting.{AreItsRoots}
use Rattle.s2_bch.proofs.CodeFacts.{not_nil, powers_differ}
use Rattle.s2_bch.proofs.Distances.{distance_self}
use Rattle.s2_bch.proofs.Decoder.{only_word, few_places, splitting_places}
use Rattle.s2_bch.proofs.corrector.FieldWorkspace.correct_errors.Goals as goal

-- what is seen of a vector whose elements were all written
whole : {A : Type 0} (n : ℕ) (now rest : List A) → n ≡ length now → take n (now ++ rest) ≡ now
whole n now rest e = ap (λ n. take n (now ++ rest)) e ∙ take-append_seam now rest

pub put_syndromes-requires : goal.put_syndromes-requires
put_syndromes-requires g c = omega (arith, c.self.invariant.few, c.self.invariant.syndromes_fit)

pub returns-then-degree-self-clause-count : goal.returns-then-degree-self-clause-count
returns-then-degree-self-clause-count g c = sym (distance_self c.args.word.now)

pub returns-then-degree-self-clause-only : goal.returns-then-degree-self-clause-only
returns-then-degree-self-clause-only g c G v some roots m e near =
    let f = g.F.Field in
    let laws = g.met.F.Field.laws in
    let t = c.self.inside.t in
    let sequence = c.deref.result.now in
    let is : sequence ≡ c.put_syndromes.new.syndromes = c.deref.ensures.value ∙ whole _ c.put_syndromes.new.syndromes _ (omega (arith, c.deref.ensures.len, c.put_syndromes.auto.syndromes)) in
    let degree = c.shortest_locator-degree.result in
    let long : length sequence ≡ t + t = omega (arith, ap length is, c.put_syndromes.auto.syndromes, c.self.invariant.syndromes_fit) in
    let few : degree ≤ t =
    few_places f.field laws f.alpha f.ORDER t
    (length sequence) degree G c.args.word.now v
    sequence (take (degree + 1) c.shortest_locator-degree.new.locator)
    c.shortest_locator-degree.ensures.0 c.shortest_locator-degree.ensures.1
    (not_nil f.field laws f.alpha f.ORDER g.met.F.Field.order g.met.F.Field.numbered.some)
    (powers_differ f.field laws f.alpha f.ORDER g.met.F.Field.order g.met.F.Field.numbered.some)
    some (subst (λ t. HasRoots f.field f.alpha (t + t) G) (sym c.self.view_is) roots) long
    (λ j hj.
    ap (λ s. slice_index_or s j f.field.zero) is ∙ c.put_syndromes.ensures j (omega (arith, long, ap length is))
    ∙ c.requires.rest.same j (omega (arith, long, c.self.view_is)))
    c.shortest_locator-degree.ensures.2
    m e (omega (arith, c.requires.short)) (omega (arith, near, c.self.view_is)) in
    absurd (omega (arith, few, c.if-degree-self.true))

pub returns-then-not-may_split-clause-count : goal.returns-then-not-may_split-clause-count
returns-then-not-may_split-clause-count g c = sym (distance_self c.args.word.now)

pub returns-then-not-may_split-clause-only : goal.returns-then-not-may_split-clause-only
returns-then-not-may_split-clause-only g c G v some roots m e near =
    let f = g.F.Field in
    let laws = g.met.F.Field.laws in
    let t = c.self.inside.t in
    let sequence = c.deref.result.now in
    let is : sequence ≡ c.put_syndromes.new.syndromes = c.deref.ensures.value ∙ whole _ c.put_syndromes.new.syndromes _ (omega (arith, c.deref.ensures.len, c.put_syndromes.auto.syndromes)) in
    let degree = c.shortest_locator-degree.result in
    let locator = c.shortest_locator-degree.new.locator in
    let long : length sequence ≡ t + t = omega (arith, ap length is, c.put_syndromes.auto.syndromes, c.self.invariant.syndromes_fit) in
    let places =
    splitting_places f.field laws f.alpha f.ORDER t
    (length sequence) degree G c.args.word.now v
    sequence (take (degree + 1) locator)
    c.shortest_locator-degree.ensures.0 c.shortest_locator-degree.ensures.1
    (not_nil f.field laws f.alpha f.ORDER g.met.F.Field.order g.met.F.Field.numbered.some)
    (powers_differ f.field laws f.alpha f.ORDER g.met.F.Field.order g.met.F.Field.numbered.some)
    some (subst (λ t. HasRoots f.field f.alpha (t + t) G) (sym c.self.view_is) roots) long
    (λ j hj.
    ap (λ s. slice_index_or s j f.field.zero) is ∙ c.put_syndromes.ensures j (omega (arith, long, ap length is))
    ∙ c.requires.rest.same j (omega (arith, long, c.self.view_is)))
    c.shortest_locator-degree.ensures.2
    m e (omega (arith, c.requires.short)) (omega (arith, near, c.self.view_is))
    (2 ^ c.args.m) g.met.F.Field.order c.requires.field in
    let low : take degree (take (degree + 1) locator) ≡ take degree c.deref-2.result.now =
    take-take degree (degree + 1) locator (omega arith)
    ∙ sym (ap (take degree) (c.deref-2.ensures.value ∙ whole _ locator _ (omega (arith, c.deref-2.ensures.len, c.shortest_locator-degree.auto.locator)))) in
    absurd (c.may_split.ensures c.if-not-may_split.true places.0
    (subst (λ u. AreItsRoots f.field (2 ^ c.args.m) u places.0) low places.1))

pub chien_search-requires : goal.chien_search-requires
chien_search-requires g c = record {
  few = omega (arith, c.if-degree-self.false, c.self.invariant.few, length-take (c.shortest_locator-degree.result + 1) c.deref-3.result.now);
  room = omega (arith, c.self.invariant.terms_fit);
  lanes = omega (arith, c.self.invariant.values_fit);
  short = c.requires.few;
}

pub returns-clause-only : goal.returns-clause-only
returns-clause-only g c G v some roots m e near =
    let f = g.F.Field in
    let laws = g.met.F.Field.laws in
    let t = c.self.inside.t in
    let sequence = c.deref.result.now in
    let is : sequence ≡ c.put_syndromes.new.syndromes = c.deref.ensures.value ∙ whole _ c.put_syndromes.new.syndromes _ (omega (arith, c.deref.ensures.len, c.put_syndromes.auto.syndromes)) in
    let degree = c.shortest_locator-degree.result in
    let long : length sequence ≡ t + t = omega (arith, ap length is, c.put_syndromes.auto.syndromes, c.self.invariant.syndromes_fit) in
    only_word f.field laws f.alpha f.ORDER t
    (length sequence) degree G c.args.word.now v
    sequence (take (degree + 1) c.shortest_locator-degree.new.locator)
    c.shortest_locator-degree.ensures.0 c.shortest_locator-degree.ensures.1
    (not_nil f.field laws f.alpha f.ORDER g.met.F.Field.order g.met.F.Field.numbered.some)
    (powers_differ f.field laws f.alpha f.ORDER g.met.F.Field.order g.met.F.Field.numbered.some)
    some (subst (λ t. HasRoots f.field f.alpha (t + t) G) (sym c.self.view_is) roots) long
    (λ j hj.
    ap (λ s. slice_index_or s j f.field.zero) is ∙ c.put_syndromes.ensures j (omega (arith, long, ap length is))
    ∙ c.requires.rest.same j (omega (arith, long, c.self.view_is)))
    c.shortest_locator-degree.ensures.2
    m e (omega (arith, c.requires.short)) (omega (arith, near, c.self.view_is))
    c.chien_search.new.word
    (subst (λ l. FlipsRoots f.field f.alpha (take (degree + 1) l) c.args.word.now c.chien_search.new.word) (c.deref-3.ensures.value ∙ whole _ c.shortest_locator-degree.new.locator _ (omega (arith, c.deref-3.ensures.len, c.shortest_locator-degree.auto.locator))) c.chien_search.ensures.flips)
