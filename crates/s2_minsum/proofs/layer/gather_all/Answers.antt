use Rattle.std.proofs.Common.{◌≡◌, ℕ, ◌+◌, ◌-◌, ◌*◌, ◌<◌, ◌≤◌, length, get_or, take, drop, ap, sym, ◌∙◌, inl, inr, arith}
use Rattle.std.proofs.lemmas.Bool.{cases_eq}
use borrow.Rule.Slice.PartMut.{put_mid}
use Rattle.s2_bits.specs.Lanes16.{minus16}
use Rattle.s2_minsum.specs.Rows.{rotated, entry_at, cell}
use Rattle.s2_bits.proofs.RowParts.{length-part, part_at, length-put_row, put_row_same, put_row_other, row_room}
use Rattle.s2_minsum.proofs.layer.gather_all.Goals as goal

pub loop-e-preserved : goal.loop-e-preserved
loop-e-preserved c =
    let n = c.args.n in
    let e = c.loop-e.e in
    let count = length c.args.entries.now in
    let posteriors = c.args.posteriors.now in
    let messages = c.args.messages.now in
    let entry = entry_at c.args.entries.now e in
    let at = e * n in
    let w = at + n - at in
    let row = entry.row * n in
    let v = row + n - row in
    let now = c.loop-e.inputs in
    let ys = c.gather.new.inputs in
    let inv = c.loop-e.invariant in
    let some = c.requires.entries.some in
    let part = take v (drop row posteriors) in
    let inside = c.requires.entries.rows e (omega arith) in
    let width : w ≡ n = omega arith in
    let width' : v ≡ n = omega arith in
    let lt : e < count = omega arith in
    let room : at + n ≤ length now = row_room n e count (length now) lt (inv.long ∙ c.requires.same) in
    let plen = length-part row n v posteriors width' inside in
    let ylen : length ys ≡ n = omega (arith, c.gather.auto.inputs, length-part at n w now width room) in
    record {
      long = length-put_row n e w now ys width room ylen ∙ inv.long;
      are = λ e' k below low. elim (cases_eq e' e) [
        | inr other ↦ put_row_other n e w now ys width room ylen e' k other low ∙ inv.are e' k (omega arith) low
        | inl same ↦ (
            let want = λ (x : ℕ). minus16 (cell posteriors n (entry_at c.args.entries.now x).row (rotated n (entry_at c.args.entries.now x).shift k)) (cell messages n x k) in
            let turn : rotated n entry.shift k < n = omega arith in
            let gives : get_or ys k 0 ≡ want e =
            c.gather.ensures k (omega arith)
            ∙ ap (λ m. minus16 (get_or part (rotated m entry.shift k) 0) (get_or (take w (drop at messages)) k 0)) plen
            ∙ (λ i. minus16 (part_at 0 row n v (rotated n entry.shift k) posteriors width' turn i) (part_at 0 at n w k messages width low i))
            in
            ap (λ x. cell (put_mid at w now ys) n x k) same ∙ put_row_same n e w now ys width room ylen k low ∙ gives ∙ ap want (sym same)
            )
      ];
    }
