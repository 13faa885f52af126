use Rattle.std.proofs.Common.{◌≡◌, ℕ, ◌<◌, ◌↔◌, IsTrue, Bool, List, ℤ, pos, ◌≤ℤ◌, length, subst, sym, ap, ◌∙◌, arith}
use Rattle.std.proofs.lemmas.Int.{ints}
use Rattle.s2_mode.specs.Shape.{code_bits}
use Rattle.s2_rows.specs.Rows.{Rows}
use Rattle.s2_matrix.specs.Code.{Code, code_of, first_edge}
use Rattle.s2_check.specs.Cost.{value_at}
use Rattle.s2_check.specs.Moves.{in_favour, placed_of, all_shares, ArePlaced}
use Rattle.s2_check.specs.Split.{bound, split_of}
use Rattle.s2_check.specs.Strict.{AreStrict}
use Rattle.s2_check.specs.Views.{View, by_group}
use Rattle.s2_check.specs.Held.{shares_of, AreHeld}
use Rattle.s2_check.proofs.BoundListed.{bound_listed, strict_listed}
use Rattle.s2_check.proofs.SameCode.{same_code}
use Rattle.s2_check.proofs.ZeroShares.{bound_of_zeros, strict_of_zeros}
use Rattle.s2_check.proofs.view.CertView.shown.Goals as goal

pub returns-in-Zeros-clause-bound : goal.returns-in-Zeros-clause-bound
returns-in-Zeros-clause-bound c =
    let code = code_of c.args.matrix.now in
    let inside = c.self.inside in
    let own = inside.matrix.now in
    let count = first_edge (code_of own) (code_of own).checks in
    let fits = c.unsplit_bound.type_inv in
    let long : length inside.soft.now ≡ code.bits = c.self.invariant.0.soft_long ∙ ap (λ (v : View). code_bits v.rows.shape) c.self.view_is ∙ ap (λ (r : Rows). code_bits r.shape) c.requires.own.shape in
    let zeros = bound_of_zeros code inside.soft.now inside.scale count (length inside.soft.now) long in
    let here = ap (λ s. bound code inside.soft.now (split_of code inside.scale (shares_of own inside.word.now s))) (sym c.in-Zeros.is) in
    let there = ap (λ (v : View). bound code v.soft (split_of code v.scale v.shares)) c.self.view_is in
    let is = c.unsplit_bound.ensures.value ∙ zeros ∙ here ∙ there in
    omega (arith, ints, is)

pub returns-in-Zeros-clause-strict : goal.returns-in-Zeros-clause-strict
returns-in-Zeros-clause-strict c =
    let code = code_of c.args.matrix.now in
    let inside = c.self.inside in
    let own = inside.matrix.now in
    let count = first_edge (code_of own) (code_of own).checks in
    let soft = inside.soft.now in
    let word = inside.word.now in
    let yes' = c.all_favour.result in
    let long : length soft ≡ code.bits = c.self.invariant.0.soft_long ∙ ap (λ (v : View). code_bits v.rows.shape) c.self.view_is ∙ ap (λ (r : Rows). code_bits r.shape) c.requires.own.shape in
    let V : List Bool → Type 0 = λ l. IsTrue yes' ↔ ((i : ℕ) → i < length soft → pos 1 ≤ℤ in_favour l i (value_at soft i)) in
    let values = subst V c.truths.ensures c.all_favour.ensures in
    let zeros = strict_of_zeros code soft word inside.scale count (length soft) long c.self.invariant.0.scale_some in
    let Q : List ℤ → Type 0 = λ l. IsTrue yes' ↔ AreStrict code soft (split_of code inside.scale l) word in
    let P : View → Type 0 = λ v. IsTrue yes' ↔ AreStrict code v.soft (split_of code v.scale v.shares) v.bits in
    subst P c.self.view_is (subst Q (sym (ap (shares_of own word) c.in-Zeros.is)) (λ y. zeros.0 (values.0 y), λ all. values.1 (zeros.1 all)))

pub returns-in-Listed-clause-strict : goal.returns-in-Listed-clause-strict
returns-in-Listed-clause-strict c =
    let code = code_of c.args.matrix.now in
    let inside = c.self.inside in
    let rests = c.bits_bound-rests in
    let Q : List ℤ → Type 0 = λ l. IsTrue rests.result.strict ↔ AreStrict code inside.soft.now (split_of code inside.scale l) inside.word.now in
    let P : View → Type 0 = λ v. IsTrue rests.result.strict ↔ AreStrict code v.soft (split_of code v.scale v.shares) v.bits in
    subst P c.self.view_is (subst Q (sym (ap (shares_of inside.matrix.now inside.word.now) c.in-Listed.is)) rests.ensures.strict)

pub returns-in-Listed-clause-bound : goal.returns-in-Listed-clause-bound
returns-in-Listed-clause-bound c =
    let code = code_of c.args.matrix.now in
    let inside = c.self.inside in
    let checks = c.checks_bound-minima in
    let bits = c.bits_bound-rests in
    let here = ap (λ s. bound code inside.soft.now (split_of code inside.scale (shares_of inside.matrix.now inside.word.now s))) (sym c.in-Listed.is) in
    let there = ap (λ (v : View). bound code v.soft (split_of code v.scale v.shares)) c.self.view_is in
    let is = here ∙ there in
    omega (arith, ints, checks.ensures.low, checks.ensures.high, bits.ensures.low, bits.ensures.high, checks.ensures.value, bits.ensures.value, is)

pub moved_bound-requires-clause-moves : goal.moved_bound-requires-clause-moves
moved_bound-requires-clause-moves c =
    let inside = c.self.inside in
    let own = inside.matrix.now in
    let same = ap (λ (v : View). by_group v.rows) c.self.view_is ∙ c.requires.own.shape in
    let codes = same_code own c.args.matrix.now c.self.invariant.0.shaped.group_some same in
    let placed = subst (AreHeld own inside.word.now) c.in-Moved.is c.self.invariant.1 in
    subst (λ (k : Code). ArePlaced k inside.word.now c.in-Moved.moves.now) codes placed

pub returns-in-Moved-clause-bound : goal.returns-in-Moved-clause-bound
returns-in-Moved-clause-bound c =
    let code = code_of c.args.matrix.now in
    let inside = c.self.inside in
    let own = inside.matrix.now in
    let soft = inside.soft.now in
    let word = inside.word.now in
    let moves = c.in-Moved.moves.now in
    let same = ap (λ (v : View). by_group v.rows) c.self.view_is ∙ c.requires.own.shape in
    let codes = same_code own c.args.matrix.now c.self.invariant.0.shaped.group_some same in
    let listed = sym (bound_listed code soft (placed_of code word inside.scale moves)) in
    let shares : all_shares code (placed_of code word 1 moves) ≡ shares_of own word inside.shares = sym (ap (λ (k : Code). all_shares k (placed_of k word 1 moves)) codes) ∙ sym (ap (shares_of own word) c.in-Moved.is) in
    let here = ap (λ l. bound code soft (split_of code inside.scale l)) shares in
    let there = ap (λ (v : View). bound code v.soft (split_of code v.scale v.shares)) c.self.view_is in
    let is = c.moved_bound.ensures.bound ∙ listed ∙ here ∙ there in
    omega (arith, ints, is)

pub returns-in-Moved-clause-strict : goal.returns-in-Moved-clause-strict
returns-in-Moved-clause-strict c =
    let code = code_of c.args.matrix.now in
    let inside = c.self.inside in
    let own = inside.matrix.now in
    let soft = inside.soft.now in
    let word = inside.word.now in
    let moves = c.in-Moved.moves.now in
    let yes' = c.moved_bound.result.strict in
    let strict = c.moved_bound.ensures.strict in
    let same = ap (λ (v : View). by_group v.rows) c.self.view_is ∙ c.requires.own.shape in
    let codes = same_code own c.args.matrix.now c.self.invariant.0.shaped.group_some same in
    let listed = strict_listed code soft word (placed_of code word inside.scale moves) in
    let shares : all_shares code (placed_of code word 1 moves) ≡ shares_of own word inside.shares = sym (ap (λ (k : Code). all_shares k (placed_of k word 1 moves)) codes) ∙ sym (ap (shares_of own word) c.in-Moved.is) in
    let Q : List ℤ → Type 0 = λ l. IsTrue yes' ↔ AreStrict code soft (split_of code inside.scale l) word in
    let P : View → Type 0 = λ v. IsTrue yes' ↔ AreStrict code v.soft (split_of code v.scale v.shares) v.bits in
    subst P c.self.view_is (subst Q shares (λ y. listed.0 (strict.0 y), λ all. strict.1 (listed.1 all)))
