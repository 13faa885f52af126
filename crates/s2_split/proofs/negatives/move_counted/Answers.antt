use Rattle.std.proofs.Common.{◌≡◌, ◌<◌, ◌+◌, length, length-set, take, get_or, pos, ◌+ℤ◌, ◌-ℤ◌, to_z, of_z, w32, ap, subst, sym, ◌∙◌, arith}
use Rattle.std.proofs.lemmas.Int.{ints}
use Rattle.s2_split.proofs.Lesser.{IsWrittenAt, not_written, written_more, all_written}
use Rattle.s2_split.proofs.Anew.{anew_at, anew_member, anew_written, gain_within}
use Rattle.s2_split.proofs.negatives.move_counted.Goals as goal

pub overflow_add-rest : goal.overflow_add-rest
overflow_add-rest c =
    let ms = c.args.members.now in
    let i = c.loop-at.at in
    let x = get_or ms i 0 in
    let f = anew_at c.args.rests.now ms c.args.held c.args.own in
    let h : i < length ms = omega arith in
    let was = not_written (pos 0) f ms i c.args.rests.now c.loop-at.rests c.requires.rising h c.loop-at.invariant.written in
    let size = c.requires.small x in
    let a = gain_within c.args.held i c.requires.held_few in
    let d = gain_within c.args.own i c.requires.own_few in
    omega (arith, ints, was, size.0, size.1, a.0, a.1, d.0, d.1, c.gained_at.ensures, c.gained_at-in-loop-at.ensures)

pub loop-at-preserved : goal.loop-at-preserved
loop-at-preserved c =
    let old = c.args.rests.now in
    let now = c.loop-at.rests in
    let ms = c.args.members.now in
    let held = c.args.held in
    let own = c.args.own in
    let i = c.loop-at.at in
    let x = get_or ms i 0 in
    let f = anew_at old ms held own in
    let before = c.loop-at.invariant in
    let h : i < length ms = omega arith in
    let low : x < length now = omega (arith, before.long, c.requires.below i 0 h) in
    let was = not_written (pos 0) f ms i old now c.requires.rising h before.written in
    let size = c.requires.small x in
    let a = gain_within held i c.requires.held_few in
    let d = gain_within own i c.requires.own_few in
    let will = anew_member old ms held own i c.requires.rising c.requires.held_place c.requires.own_place h in
    let v = to_z w32 (of_z w32 (to_z w32 (of_z w32 (to_z w32 (of_z w32 (get_or now x (pos 0))) -ℤ to_z w32 (of_z w32 c.gained_at.result))) +ℤ to_z w32 (of_z w32 c.gained_at-in-loop-at.result))) in
    let is : v ≡ f x = omega (arith, ints, was, size.0, size.1, a.0, a.1, d.0, d.1, c.gained_at.ensures, c.gained_at-in-loop-at.ensures, will) in
    let set_is = c.set_rest.ensures.rests in
    record {
      long = ap length set_is ∙ length-set now x v ∙ before.long;
      written = subst (IsWrittenAt (pos 0) f (take (i + 1) ms) old) (sym set_is) (written_more (pos 0) f ms i old now v h low before.written is);
      counted = c.set_rest.ensures.counted;
    }

pub returns-clause-moved : goal.returns-clause-moved
returns-clause-moved c =
    let ms = c.args.members.now in
    let old = c.args.rests.now in
    let new = c.loop-at.rests in
    let f = anew_at old ms c.args.held c.args.own in
    anew_written old new ms c.args.held c.args.own (all_written (pos 0) f ms c.loop-at.at old new (omega arith) c.loop-at.invariant.written)
