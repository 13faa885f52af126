use Rattle.std.proofs.Common.{◌≡◌, ℕ, ◌+◌, ◌-◌, ◌*◌, ◌<◌, ◌≤◌, length, ap, ◌∙◌, inl, inr, arith}
use Rattle.std.proofs.lemmas.Bool.{cases_lt}
use Rattle.s2_mode.specs.Shape.{Shape}
use Rattle.s2_rows.specs.Rows.{Rows}
use Rattle.s2_matrix.specs.Code.{code_of, members}
use Rattle.s2_minsum.specs.Layout.{entry_count, last_check}
use Rattle.s2_minsum.proofs.entries.max_entries.Goals as goal
use Rattle.s2_minsum.proofs.entries.max_entries.Goals.{then-degree-most, else-degree-most}

-- the largest so far and one more
larger : (rows : Rows) (r most next here : ℕ) → here ≡ entry_count rows r → most ≤ next → here ≤ next → ((r' : ℕ) → r' < r → entry_count rows r' ≤ most) → (r' : ℕ) → r' < r + 1 → entry_count rows r' ≤ next
larger rows r most next here is before now so_far r' lt = elim (cases_lt r' r) [
  | inl less ↦ (let old = so_far r' less in omega arith)
  | inr le ↦ (let same : r' ≡ r = omega arith in omega (arith, is, ap (entry_count rows) same))
]

-- no larger than what no layer so far exceeds
no_larger : (rows : Rows) (r next here : ℕ) → here ≡ entry_count rows r → next ≤ here → (bound : ℕ) → ((r' : ℕ) → r' < r + 1 → entry_count rows r' ≤ bound) → next ≤ bound
no_larger rows r next here is before bound all = omega (arith, is, before, all r (omega arith))

pub loop-r-preserved : goal.loop-r-preserved
loop-r-preserved c =
    let rows = c.args.matrix.now in
    let r = c.loop-r.r in
    let s = c.shape-shape.ensures.is in
    let check : r + (c.group.result - 1) * c.q.result ≡ last_check rows.shape r = λ i. r + ((c.group.ensures.is ∙ ap (λ (x : Shape). x.group) s) i - 1) * (c.q.ensures.is ∙ ap (λ (x : Shape). x.q) s) i in
    let here : c.degree-degree.result ≡ entry_count rows r = c.degree-degree.ensures.is ∙ ap (λ j. length (members (code_of rows) j)) check in
    elim c.if-degree-most.branch [
      | then-degree-most w ↦ record { most = larger rows r c.loop-r.most c.if-degree-most.most c.degree-degree.result here (omega arith) (omega arith) c.loop-r.invariant.most; reached = no_larger rows r c.if-degree-most.most c.degree-degree.result here (omega arith); few = omega arith }
      | else-degree-most w ↦ record { most = larger rows r c.loop-r.most c.if-degree-most.most c.degree-degree.result here (omega arith) (omega arith) c.loop-r.invariant.most; reached = λ bound all. omega (arith, c.loop-r.invariant.reached bound (λ r' lt. all r' (omega (arith, lt)))); few = omega arith }
    ]
