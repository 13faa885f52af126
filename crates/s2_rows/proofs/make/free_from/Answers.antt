use Rattle.std.proofs.Common.{rules, arith, ◌≡◌, ℕ, false, ◌==◌, length, sym, ◌∙◌, subst}
use Rattle.std.specs.List.{list_any}
use Rattle.s2_rows.specs.MadeRows.{free_from}
use Rattle.s2_rows.proofs.FreeAddresses.{moves_up, stays, none_left, up_below, free_from_is_free}
use Rattle.s2_rows.proofs.make.free_from.Goals as goal

pub returns-then-not-contains-clause-is : goal.returns-then-not-contains-clause-is
returns-then-not-contains-clause-is c = sym (c.loop-moves.invariant.0 ∙ stays _ _ _ _ _ c.loop-moves-test.true (search rules))

pub loop-moves-preserved : goal.loop-moves-preserved
loop-moves-preserved c = (c.loop-moves.invariant.0 ∙ moves_up _ _ _ _ _ c.loop-moves-test.true (search rules), up_below _ _ c.loop-moves.invariant.1)

pub returns-clause-is : goal.returns-clause-is
returns-clause-is c = sym (c.loop-moves.invariant.0 ∙ none_left _ _ _ _ _ (omega arith))

pub returns-clause-free : goal.returns-clause-free
returns-clause-free c =
    let is : c.loop-moves.x ≡ free_from c.args.checks c.args.row.now (length c.args.row.now) c.args.x = sym (c.loop-moves.invariant.0 ∙ none_left _ _ _ _ _ (omega arith)) in
    let P : ℕ → Type 0 = λ z. list_any (λ y. y == z) c.args.row.now ≡ false in
    subst P (sym is) (free_from_is_free c.args.checks c.args.row.now c.args.x c.requires.below c.requires.room)
