use Rattle.std.proofs.Common.{length, List, Bool, sym, ap, ◌∙◌, arith, ℤ, ◌≢◌, IfSome, subst, take, drop, ◌++◌}
use Rattle.s2_rows.specs.Rows.{Rows}
use Rattle.s2_matrix.specs.Code.{code_of}
use Rattle.s2_check.specs.Moves.{Move, placed_of, AreMoves}
use Rattle.s2_check.proofs.Lists.{refilled}
use Rattle.s2_split.specs.Making.{Making, made_of, shared, split_in_ways, AreLeft}
use Rattle.s2_split.proofs.Held.{held_left}
use Rattle.s2_split.proofs.maker.Maker.certify_in.Goals as goal

pub returns-clause-made : goal.returns-clause-made
returns-clause-made c =
    let inside = c.self.inside in
    let make = c.make_moves-self-inside in
    let rows = ap (λ (v : Making). v.rows) c.self.view_is in
    let moves = refilled inside.moves.len make.new.moves inside.moves.items (sym c.deref_mut-3.ensures.len ∙ ap length c.deref_mut-3.ensures.value) (omega (arith, ap length c.deref_mut-3.ensures.value)) in
    let there = ap (made_of make.result) moves in
    let made = make.ensures.made ∙ ap (λ (w : List Bool). shared (code_of inside.matrix.now) w (split_in_ways c.args.ways (code_of inside.matrix.now) c.args.soft.now w)) c.truths.ensures in
    there ∙ made ∙ ap (λ (r : Rows). shared (code_of r) c.args.word.now (split_in_ways c.args.ways (code_of r) c.args.soft.now c.args.word.now)) rows

pub returns-clause-rests : goal.returns-clause-rests
returns-clause-rests c =
    let inside = c.self.inside in
    let make = c.make_moves-self-inside in
    let own = inside.matrix.now in
    let soft = c.args.soft.now in
    let w = c.args.word.now in
    let moves = refilled inside.moves.len make.new.moves inside.moves.items (sym c.deref_mut-3.ensures.len ∙ ap length c.deref_mut-3.ensures.value) (omega (arith, ap length c.deref_mut-3.ensures.value)) in
    let rests = refilled inside.rests.len make.new.rests inside.rests.items (sym c.deref_mut.ensures.len ∙ ap length c.deref_mut.ensures.value) (omega (arith, ap length c.deref_mut.ensures.value, make.ensures.long)) in
    let P : List Move → List ℤ → Type 0 = λ ms rs. IfSome (made_of make.result ms) (λ s. AreLeft (code_of own) soft w (placed_of (code_of own) w s.scale s.moves) rs) in
    let left = λ (some : make.result ≢ 0). subst (λ (u : List Bool). AreLeft (code_of own) soft u (placed_of (code_of own) u make.result make.new.moves) make.new.rests) c.truths.ensures (make.ensures.rests some) in
    let base : P make.new.moves make.new.rests = held_left own w soft make.result make.new.rests make.new.moves left in
    let held = take inside.rests.len (make.new.rests ++ drop (length make.new.rests) inside.rests.items) in
    subst (λ (ms : List Move). P ms held) (sym moves) (subst (P make.new.moves) (sym rests) base)

pub invariant_of-self : goal.invariant_of-self
invariant_of-self c =
    let inside = c.self.inside in
    let make = c.make_moves-self-inside in
    let same_moves = refilled inside.moves.len make.new.moves inside.moves.items (sym c.deref_mut-3.ensures.len ∙ ap length c.deref_mut-3.ensures.value) (omega (arith, ap length c.deref_mut-3.ensures.value)) in
    let same_rests = refilled inside.rests.len make.new.rests inside.rests.items (sym c.deref_mut.ensures.len ∙ ap length c.deref_mut.ensures.value) (omega (arith, ap length c.deref_mut.ensures.value, make.ensures.long)) in
    let same_negatives = refilled inside.negatives.len make.new.negatives inside.negatives.items (sym c.deref_mut-2.ensures.len ∙ ap length c.deref_mut-2.ensures.value) (omega (arith, ap length c.deref_mut-2.ensures.value, make.ensures.negatives)) in
    record {
      few = c.self.invariant.few;
      scaled = make.ensures.scaled;
      rests_long = ap length same_rests ∙ omega (arith, make.ensures.long, ap length c.deref_mut.ensures.value, c.self.invariant.rests_long);
      negatives_long = ap length same_negatives ∙ omega (arith, make.ensures.negatives, ap length c.deref_mut-2.ensures.value, c.self.invariant.negatives_long);
      odd_long = c.self.invariant.odd_long;
      moves = subst (AreMoves (code_of inside.matrix.now)) (sym same_moves) make.ensures.moves;
    }
