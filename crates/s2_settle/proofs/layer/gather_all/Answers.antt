use Rattle.std.proofs.Common.{◌≡◌, ℕ, ◌+◌, ◌-◌, ◌*◌, ◌<◌, ◌≤◌, length, get_or, take, drop, ap, sym, ◌∙◌, inl, inr, arith}
use Rattle.std.proofs.lemmas.Bool.{cases_eq}
use borrow.Rule.Slice.PartMut.{put_mid}
use Rattle.s2_minsum.specs.Rows.{rotated, entry_at, cell}
use Rattle.s2_settle.specs.Rests.{given}
use Rattle.s2_bits.proofs.RowParts.{length-part, part_at, length-put_row, put_row_same, put_row_other, row_room}
use Rattle.s2_settle.proofs.layer.gather_all.Goals as goal

pub loop-e-preserved : goal.loop-e-preserved
loop-e-preserved c =
    let n = c.args.n in
    let e = c.loop-e.e in
    let count = length c.args.entries.now in
    let rests = c.args.rests.now in
    let targets = c.args.targets.now in
    let amounts = c.args.amounts.now in
    let entry = entry_at c.args.entries.now e in
    let at = e * n in
    let w = at + n - at in
    let row = entry.row * n in
    let v = row + n - row in
    let now = c.loop-e.inputs in
    let ys = c.gather.new.inputs in
    let inv = c.loop-e.invariant in
    let some = c.requires.entries.some in
    let part = take v (drop row rests) in
    let inside = c.requires.entries.rows e (omega arith) in
    let width : w ≡ n = omega arith in
    let width' : v ≡ n = omega arith in
    let lt : e < count = omega arith in
    let room : at + n ≤ length now = row_room n e count (length now) lt (inv.long ∙ c.requires.same) in
    let plen = length-part row n v rests width' inside in
    let ylen : length ys ≡ n = omega (arith, c.gather.auto.inputs, length-part at n w now width room) in
    record {
      long = length-put_row n e w now ys width room ylen ∙ inv.long;
      are = λ e' k below low. elim (cases_eq e' e) [
        | inr other ↦ put_row_other n e w now ys width room ylen e' k other low ∙ inv.are e' k (omega arith) low
        | inl same ↦ (
            let want = λ (x : ℕ). given (cell rests n (entry_at c.args.entries.now x).row (rotated n (entry_at c.args.entries.now x).shift k)) (get_or targets k 0) (get_or amounts k 0) x in
            let turn : rotated n entry.shift k < n = omega arith in
            let gives : get_or ys k 0 ≡ want e =
            c.gather.ensures k (omega arith)
            ∙ ap (λ m. given (get_or part (rotated m entry.shift k) 0) (get_or targets k 0) (get_or amounts k 0) e) plen
            ∙ (λ i. given (part_at 0 row n v (rotated n entry.shift k) rests width' turn i) (get_or targets k 0) (get_or amounts k 0) e)
            in
            ap (λ x. cell (put_mid at w now ys) n x k) same ∙ put_row_same n e w now ys width room ylen k low ∙ gives ∙ ap want (sym same)
            )
      ];
    }
