use Rattle.std.proofs.Common.{rules, ◌≡◌, ◌<◌, ℕ, length, length-set, get_or, pos, ◌-ℤ◌, to_z, of_z, w32, ap, ◌∙◌, arith}
use Rattle.std.proofs.lemmas.Int.{ints, to_z-of_z}
use Rattle.s2_split.specs.Kept.{evenly_at}
use Rattle.s2_split.proofs.Lesser.{not_written, written_more, all_written, evenly_written}
use Rattle.s2_split.proofs.rests.take_evenly.Goals as goal

pub loop-member-preserved : goal.loop-member-preserved
loop-member-preserved c =
    let old = c.args.rests.now in
    let now = c.loop-member.rests in
    let ms = c.args.members.now in
    let i = c.loop-member.member-index in
    let x = get_or ms i 0 in
    let a = to_z w32 (of_z w32 c.args.amount) in
    let f = λ (k : ℕ). get_or old k (pos 0) -ℤ a in
    let h : i < length ms = omega arith in
    let low : x < length now = omega (arith, c.loop-member.invariant.long, c.requires.below i 0 h) in
    let was = not_written (pos 0) f ms i old now c.requires.rising h c.loop-member.invariant.written in
    let size = c.requires.small x in
    let v = to_z w32 (of_z w32 (to_z w32 (of_z w32 (get_or now x (pos 0))) -ℤ to_z w32 (of_z w32 c.args.amount))) in
    let is : v ≡ f x = omega (arith, ints, was, size.0, size.1, c.requires.low, c.requires.high) in
    record {
      long = length-set now x v ∙ c.loop-member.invariant.long;
      written = written_more (pos 0) f ms i old now v h low c.loop-member.invariant.written is;
    }

pub returns-clause-taken : goal.returns-clause-taken
returns-clause-taken c k =
    let old = c.args.rests.now in
    let new = c.loop-member.rests in
    let ms = c.args.members.now in
    let a = to_z w32 (of_z w32 c.args.amount) in
    let same = to_z-of_z w32 c.args.amount (search rules) in
    let f = λ (j : ℕ). get_or old j (pos 0) -ℤ a in
    let written = all_written (pos 0) f ms c.loop-member.member-index old new (omega arith) c.loop-member.invariant.written in
    evenly_written ms a old new written k ∙ ap (λ n. get_or old k (pos 0) -ℤ evenly_at ms n k) same
