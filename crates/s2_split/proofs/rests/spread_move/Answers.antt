use Rattle.std.proofs.Common.{rules, nat_lt, cond, length, get_or, inl, inr, sym, ap, ap₂, ◌∙◌, w32, arith}
use Rattle.std.proofs.lemmas.Bool.{cases_eq}
use Rattle.std.proofs.lemmas.Int.{to_z-of_z}
use Rattle.s2_split.specs.Spreading.{spread_amount, amount_to}
use Rattle.s2_split.specs.Kept.{given_back}
use Rattle.s2_split.proofs.SpreadSteps.{gap_is}
use Rattle.s2_split.proofs.Anew.{given_within}
use Rattle.s2_split.proofs.rests.spread_move.Goals as goal

pub move_of-requires : goal.move_of-requires
move_of-requires c = omega (arith, c.least_two-least.ensures.place, c.requires.short)

pub returns-clause-amount : goal.returns-clause-amount
returns-clause-amount c =
    let f = given_back c.args.rests.now c.args.members.now c.args.held in
    let ms = c.args.members.now in
    let least = c.least_two-least.result in
    let two = c.least_two-least.ensures in
    let rest = to_z-of_z w32 least.rest (search rules) in
    let other = to_z-of_z w32 least.other (search rules) in
    c.move_of.ensures.amount ∙ c.half_gap-amount.ensures ∙ ap₂ (λ r o. cond (nat_lt 1 (length ms)) (spread_amount r o) 0) rest other ∙ gap_is f ms (get_or ms least.place 0) least.rest least.other c.requires.rising (λ k. (given_within c.args.rests.now ms c.args.held k c.requires.held_few (c.requires.small k)).1) (λ _. two.rest) two.other ∙ ap (amount_to f ms) two.least

pub returns-clause-place : goal.returns-clause-place
returns-clause-place c =
    elim (cases_eq c.half_gap-amount.result 0) [
      | inl none ↦ omega (arith, c.move_of.ensures.unmoved none, c.requires.held_place)
      | inr some ↦ omega (arith, c.move_of.ensures.moved some, c.least_two-least.ensures.place)
    ]

pub returns-clause-target : goal.returns-clause-target
returns-clause-target c some =
    ap (λ k. get_or c.args.members.now k 0) (c.move_of.ensures.moved (λ none. some (c.move_of.ensures.amount ∙ none))) ∙ c.least_two-least.ensures.least

pub returns-clause-unmoved : goal.returns-clause-unmoved
returns-clause-unmoved c none = c.move_of.ensures.unmoved (sym c.move_of.ensures.amount ∙ none)
