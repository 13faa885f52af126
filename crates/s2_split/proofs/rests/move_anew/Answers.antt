use Rattle.std.proofs.Common.{◌≡◌, ℕ, ◌*◌, ◌<◌, ◌==◌, length, length-set, get_or, set, pos, neg_ℤ, ◌+ℤ◌, ◌-ℤ◌, ◌*ℤ◌, ap, ◌∙◌, to_z, of_z, w32, arith}
use Rattle.std.proofs.lemmas.Int.{ints}
use Rattle.s2_check.specs.Moves.{max_moved}
use Rattle.s2_split.specs.Kept.{is_among, evenly_at}
use Rattle.s2_split.proofs.Anew.{changed, either_within, difference, moved_anew}
use Rattle.s2_split.proofs.rests.move_anew.Goals as goal

pub overflow_add-rests : goal.overflow_add-rests
overflow_add-rests c =
    let ms = c.args.members.now in
    let mid = c.take_evenly.new.rests in
    let from = get_or ms c.from.result 0 in
    let to = get_or ms c.from-2.result 0 in
    let a = c.args.held.amount in
    let held = c.requires.held_few in
    let own = c.requires.own_few in
    let amount = to_z w32 (of_z w32 (to_z w32 c.args.own.amount -ℤ to_z w32 a)) in
    let low : from < length mid = omega (arith, c.take_evenly.ensures.long, c.requires.below c.from.result 0 (omega (arith, c.from.ensures, c.requires.held_place))) in
    let within = λ (k : ℕ). either_within (is_among ms k) amount max_moved (omega (arith, ints, held, own)) (omega (arith, ints, held, own)) in
    let v = to_z w32 (of_z w32 (to_z w32 (of_z w32 (get_or mid from (pos 0))) -ℤ to_z w32 (of_z w32 (pos 2 *ℤ to_z w32 a)))) in
    let f = within from in
    let t = within to in
    let f_is = c.take_evenly.ensures.taken from in
    let t_is = c.take_evenly.ensures.taken to in
    let f_small = c.requires.small from in
    let t_small = c.requires.small to in
    let v_is : v ≡ get_or mid from (pos 0) +ℤ neg_ℤ (pos (2 * a)) = omega (arith, ints, held, f.0, f.1, f_is, f_small.0, f_small.1) in
    let new = changed mid from v (neg_ℤ (pos (2 * a))) to low v_is in
    let some = either_within (to == from) (neg_ℤ (pos (2 * a))) (2 * max_moved) (omega (arith, ints, held)) (omega (arith, ints, held)) in
    omega (arith, ints, new, some.0, some.1, t.0, t.1, t_is, t_small.0, t_small.1, own)

pub returns-clause-moved : goal.returns-clause-moved
returns-clause-moved c =
    let ms = c.args.members.now in
    let old = c.args.rests.now in
    let mid = c.take_evenly.new.rests in
    let p = c.from.result in
    let q = c.from-2.result in
    let from = get_or ms p 0 in
    let to = get_or ms q 0 in
    let a = c.args.held.amount in
    let d = c.args.own.amount in
    let held = c.requires.held_few in
    let own = c.requires.own_few in
    let amount = to_z w32 (of_z w32 (to_z w32 d -ℤ to_z w32 a)) in
    let here : p < length ms = omega (arith, c.from.ensures, c.requires.held_place) in
    let there : q < length ms = omega (arith, c.from-2.ensures, c.requires.own_place) in
    let low : from < length mid = omega (arith, c.take_evenly.ensures.long, c.requires.below p 0 here) in
    let within = λ (k : ℕ). either_within (is_among ms k) amount max_moved (omega (arith, ints, held, own)) (omega (arith, ints, held, own)) in
    let v = to_z w32 (of_z w32 (to_z w32 (of_z w32 (get_or mid from (pos 0))) -ℤ to_z w32 (of_z w32 (pos 2 *ℤ to_z w32 a)))) in
    let w = to_z w32 (of_z w32 (to_z w32 (of_z w32 (get_or (set mid from v) to (pos 0))) +ℤ to_z w32 (of_z w32 (pos 2 *ℤ to_z w32 d)))) in
    let high : to < length (set mid from v) = omega (arith, length-set mid from v, c.take_evenly.ensures.long, c.requires.below q 0 there) in
    let f = within from in
    let t = within to in
    let f_is = c.take_evenly.ensures.taken from in
    let t_is = c.take_evenly.ensures.taken to in
    let f_small = c.requires.small from in
    let t_small = c.requires.small to in
    let v_is : v ≡ get_or mid from (pos 0) +ℤ neg_ℤ (pos (2 * a)) = omega (arith, ints, held, f.0, f.1, f_is, f_small.0, f_small.1) in
    let new = changed mid from v (neg_ℤ (pos (2 * a))) to low v_is in
    let some = either_within (to == from) (neg_ℤ (pos (2 * a))) (2 * max_moved) (omega (arith, ints, held)) (omega (arith, ints, held)) in
    let w_is : w ≡ get_or (set mid from v) to (pos 0) +ℤ pos (2 * d) = omega (arith, ints, new, some.0, some.1, t.0, t.1, t_is, t_small.0, t_small.1, own) in
    let is : amount ≡ pos d -ℤ pos a = difference a d held own in
    let taken = λ (k : ℕ). c.take_evenly.ensures.taken k ∙ ap (λ n. get_or old k (pos 0) -ℤ evenly_at ms n k) is in
    moved_anew ms c.args.held c.args.own p q old mid v w c.from.ensures c.from-2.ensures here there low high taken v_is w_is
