use Rattle.std.proofs.Common.{◌≡◌, suc, ◌+◌, ◌-◌, ◌*◌, ◌/◌, ◌%◌, ◌<◌, ◌≤◌, true, false, cond, eqb, length, get_or, take, drop, ap, sym, ◌∙◌, inl, inr, arith, eq-eqb, ne_eqb}
use Rattle.std.proofs.lemmas.Bool.{cases_eq}
use borrow.Rule.Slice.PartMut.{put_mid}
use Rattle.s2_minsum.specs.Rows.{rotated_back, entry_at, cell, changed}
use Rattle.s2_bits.specs.Lanes16.{plus16}
use Rattle.s2_bits.proofs.RowParts.{length-part, part_at, length-put_row, put_row_same, put_row_other, row_room}
use Rattle.s2_settle.proofs.layer.scatter_add_all.Goals as goal

pub loop-e-preserved : goal.loop-e-preserved
loop-e-preserved c =
    let n = c.args.n in
    let e = c.loop-e.e in
    let entries = c.args.entries.now in
    let count = length entries in
    let old = c.args.rests.now in
    let changes = c.args.changes.now in
    let r = (entry_at entries e).row in
    let shift = (entry_at entries e).shift in
    let at = e * n in
    let w = at + n - at in
    let row = r * n in
    let v = row + n - row in
    let now = c.loop-e.rests in
    let ys = c.add_back.new.row in
    let inv = c.loop-e.invariant in
    let part = take v (drop row now) in
    let some = c.requires.entries.some in
    let inside = c.requires.entries.rows e (omega arith) in
    let width : w ≡ n = omega arith in
    let width' : v ≡ n = omega arith in
    let lt : e < count = omega arith in
    let room' : at + n ≤ length changes = row_room n e count (length changes) lt c.requires.long in
    let room : row + n ≤ length now = omega arith in
    let plen = length-part row n v now width' room in
    let ylen : length ys ≡ n = omega (arith, c.add_back.auto.row, plen) in
    let so_far = changed n entries old (cell changes n) in
    record {
      long = length-put_row n r v now ys width' room ylen ∙ inv.long;
      are = λ p low.
          let k = p % n in
          let q = p / n in
          let small : k < n = omega arith in
          let whole : q * n + k ≡ p = omega arith in
          let one : suc e ≡ e + 1 = omega arith in
          let more = plus16 (so_far e p) (cell changes n e (rotated_back n shift k)) in
          let step : so_far (e + 1) p ≡ cond (eqb r q) more (so_far e p) = ap (λ x. so_far x p) (sym one) in
          ap (λ x. get_or (put_mid row v now ys) x 0) (sym whole)
          ∙ elim (cases_eq q r) [
            | inl same ↦ (
                let yes' : eqb r q ≡ true = eq-eqb r q (sym same) in
                let turn : rotated_back n shift k < n = omega arith in
                let place : r * n + k ≡ p = ap (λ x. x * n + k) (sym same) ∙ whole in
                let was : get_or part k 0 ≡ so_far e p = part_at 0 row n v k now width' small ∙ ap (λ x. get_or now x 0) place ∙ inv.are p low in
                let change = part_at 0 at n w (rotated_back n shift k) changes width turn in
                ap (λ x. cell (put_mid row v now ys) n x k) same ∙ put_row_same n r v now ys width' room ylen k small
                ∙ c.add_back.ensures k (omega arith)
                ∙ ap (λ m. plus16 (get_or part k 0) (get_or (take w (drop at changes)) (rotated_back m shift k) 0)) plen
                ∙ (λ i. plus16 (was i) (change i))
                ∙ sym (step ∙ ap (λ b. cond b more (so_far e p)) yes')
                )
            | inr other ↦ (
                let no' : eqb r q ≡ false = ne_eqb r q (λ same. other (sym same)) in
                put_row_other n r v now ys width' room ylen q k other small ∙ ap (λ x. get_or now x 0) whole ∙ inv.are p low
                ∙ sym (step ∙ ap (λ b. cond b more (so_far e p)) no')
                )
          ];
    }
