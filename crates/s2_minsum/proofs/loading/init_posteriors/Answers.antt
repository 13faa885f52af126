use Rattle.std.proofs.Common.{◌≡◌, ◌+◌, ◌-◌, ◌*◌, ◌<◌, ◌≤◌, length, get_or, pos, ap, sym, ◌∙◌, inl, inr, arith}
use Rattle.std.proofs.lemmas.Bool.{cases_eq}
use borrow.Rule.Slice.PartMut.{put_mid}
use Rattle.s2_mode.specs.Shape.{Shape}
use Rattle.s2_bits.specs.Lanes16.{signed16}
use Rattle.s2_minsum.specs.Rows.{cell}
use Rattle.s2_minsum.specs.Layout.{bit_of, step_of_row}
use Rattle.s2_minsum.proofs.Places
use Rattle.s2_bits.proofs.RowParts.{length-part, put_row_same, put_row_other}
use Rattle.s2_minsum.proofs.loading.init_posteriors.Goals as goal

pub loop-row-preserved : goal.loop-row-preserved
loop-row-preserved c =
    let s = c.args.matrix.now.shape in
    let s_is = c.shape-shape.ensures.is in
    let n = c.group-n.result in
    let row = c.loop-row.row in
    let now = c.loop-row.posteriors in
    let ys = c.put_row.new.row in
    let soft = c.args.soft.now in
    let g : n ≡ s.group = c.group-n.ensures.is ∙ ap (λ (x : Shape). x.group) s_is in
    let valid = c.shape-shape.ensures.valid in
    let high : row < s.groups + s.q = omega (arith, c.groups.ensures.is ∙ ap (λ (x : Shape). x.groups) s_is, c.q.ensures.is ∙ ap (λ (x : Shape). x.q) s_is) in
    let width : row * n + n - row * n ≡ n = omega arith in
    let product : row * n ≡ row * s.group = ap (λ x. row * x) g in
    let room : row * n + n ≤ length now = omega (arith, Places.row_within s valid row high, product, g) in
    let ylen : length ys ≡ n = c.put_row.auto.row ∙ length-part (row * n) n (row * n + n - row * n) now width room in
    let first = c.first_bit.ensures ∙ ap (λ (x : Shape). bit_of x row 0) s_is in
    let step = c.step_of.ensures.is ∙ ap (λ (x : Shape). step_of_row x row) s_is in
    record {
      fits = λ k. (c.type_inv.posteriors k).fits;
      are = λ row' lane lt low. elim (cases_eq row' row) [
        | inr other ↦ ap signed16 (put_row_other n row (row * n + n - row * n) now ys width room ylen row' lane other low) ∙ c.loop-row.invariant.are row' lane (omega arith) low
        | inl same ↦
            ap signed16 (ap (λ x. cell (put_mid (row * n) (row * n + n - row * n) now ys) n x lane) same ∙ put_row_same n row (row * n + n - row * n) now ys width room ylen lane low)
            ∙ c.put_row.ensures lane (omega arith)
            ∙ ap (λ x. get_or soft x (pos 0)) ((λ i. first i + lane * step i) ∙ sym (Places.bit_step s valid row lane))
            ∙ ap (λ x. get_or soft (bit_of s x lane) (pos 0)) (sym same)
      ];
    }

pub returns-clause-are : goal.returns-clause-are
returns-clause-are c =
    let s = c.args.matrix.now.shape in
    let s_is = c.shape-shape.ensures.is in
    let g : c.group-n.result ≡ s.group = c.group-n.ensures.is ∙ ap (λ (x : Shape). x.group) s_is in
    λ row lane high low.
    ap (λ x. signed16 (cell c.loop-row.posteriors x row lane)) (sym g) ∙ c.loop-row.invariant.are row lane (omega (arith, c.groups.ensures.is ∙ ap (λ (x : Shape). x.groups) s_is, c.q.ensures.is ∙ ap (λ (x : Shape). x.q) s_is)) (omega (arith, g))
