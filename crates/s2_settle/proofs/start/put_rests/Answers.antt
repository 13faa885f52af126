use Rattle.std.proofs.Common.{◌≡◌, ◌+◌, ◌-◌, ◌*◌, ◌/◌, ◌%◌, ◌<◌, ◌≤◌, length, get_or, ap, sym, ◌∙◌, inl, inr, arith}
use Rattle.std.proofs.lemmas.Bool.{cases_eq}
use borrow.Rule.Slice.PartMut.{put_mid}
use Rattle.s2_mode.specs.Shape.{Shape, code_bits}
use Rattle.s2_matrix.proofs.Joins.{div_below}
use Rattle.s2_minsum.specs.Rows.{cell}
use Rattle.s2_minsum.specs.Layout.{bit_of, step_of_row}
use Rattle.s2_minsum.proofs.Places
use Rattle.s2_bits.proofs.RowParts.{length-part, length-put_row, put_row_same, put_row_other}
use Rattle.s2_settle.specs.Start.{started}
use Rattle.s2_settle.proofs.Layers.{by_places}
use Rattle.s2_settle.proofs.start.put_rests.Goals as goal

pub loop-row-preserved : goal.loop-row-preserved
loop-row-preserved c =
    let s = c.args.matrix.now.shape in
    let s_is = c.shape-shape.ensures.is in
    let n = c.group-n.result in
    let row = c.loop-row.row in
    let now = c.loop-row.rests in
    let ys = c.put_row.new.row in
    let start = started c.args.soft.now c.args.word.now in
    let g : n ≡ s.group = c.group-n.ensures.is ∙ ap (λ (x : Shape). x.group) s_is in
    let valid = c.shape-shape.ensures.valid in
    let high : row < s.groups + s.q = omega (arith, c.groups.ensures.is ∙ ap (λ (x : Shape). x.groups) s_is, c.q.ensures.is ∙ ap (λ (x : Shape). x.q) s_is) in
    let width : row * n + n - row * n ≡ n = omega arith in
    let product : row * n ≡ row * s.group = ap (λ x. row * x) g in
    let room : row * n + n ≤ length now = omega (arith, Places.row_within s valid row high, product, g, c.loop-row.invariant.long) in
    let ylen : length ys ≡ n = c.put_row.auto.row ∙ length-part (row * n) n (row * n + n - row * n) now width room in
    let first = c.first_bit.ensures ∙ ap (λ (x : Shape). bit_of x row 0) s_is in
    let step = c.step_of.ensures.is ∙ ap (λ (x : Shape). step_of_row x row) s_is in
    record {
      long = length-put_row n row (row * n + n - row * n) now ys width room ylen ∙ c.loop-row.invariant.long;
      are = λ row' lane lt low. elim (cases_eq row' row) [
        | inr other ↦ put_row_other n row (row * n + n - row * n) now ys width room ylen row' lane other low ∙ c.loop-row.invariant.are row' lane (omega arith) low
        | inl same ↦
            ap (λ x. cell (put_mid (row * n) (row * n + n - row * n) now ys) n x lane) same ∙ put_row_same n row (row * n + n - row * n) now ys width room ylen lane low
            ∙ c.put_row.ensures lane (omega arith)
            ∙ ap start ((λ i. first i + lane * step i) ∙ sym (Places.bit_step s valid row lane))
            ∙ ap (λ x. start (bit_of s x lane)) (sym same)
      ];
    }

pub returns : goal.returns
returns c =
    let s = c.args.matrix.now.shape in
    let s_is = c.shape-shape.ensures.is in
    let n = s.group in
    let g : c.group-n.result ≡ n = c.group-n.ensures.is ∙ ap (λ (x : Shape). x.group) s_is in
    let valid = c.shape-shape.ensures.valid in
    let q = c.q.ensures.is ∙ ap (λ (x : Shape). x.q) s_is in
    let groups = c.groups.ensures.is ∙ ap (λ (x : Shape). x.groups) s_is in
    by_places 0 _ (code_bits s) c.loop-row.rests (c.loop-row.invariant.long ∙ c.requires.same) (λ k low. (
    let some : 1 ≤ n = valid.group_some in
    let low' : k < (s.groups + s.q) * n = omega arith in
    let row_low : k / n < s.groups + s.q = div_below k n (s.groups + s.q) some low in
    let lane_low : k % n < n = omega arith in
    let split : k / n * n + k % n ≡ k = omega arith in
    let all : k / n < c.loop-row.row = omega (arith, q, groups) in
    let at : k / n * c.group-n.result + k % n ≡ k = ap (λ x. k / n * x + k % n) g ∙ split in
    ap (λ x. get_or c.loop-row.rests x 0) (sym at) ∙ c.loop-row.invariant.are (k / n) (k % n) all (omega (arith, g))
    ))
