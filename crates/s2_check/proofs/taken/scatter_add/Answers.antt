use Rattle.std.proofs.Common.{◌≡◌, ◌≢◌, ◌+◌, ◌%◌, ◌^◌, ◌<◌, length, get_or, set, ap, ap₂, sym, ◌∙◌, inl, inr, arith, get_or-set_same, get_or-set_other, length-set}
use Rattle.std.proofs.lemmas.Bool.{cases_eq}
use Rattle.s2_matrix.specs.Code.{code_of}
use Rattle.s2_check.specs.Taken.{amount_of, target_of, given}
use Rattle.s2_check.proofs.TakenSums.{given_more, given_other, given_none}
use Rattle.s2_check.proofs.taken.scatter_add.Goals as goal
use Rattle.s2_check.proofs.taken.scatter_add.Goals.{then-own-gt0, else-own-gt0}

pub loop-check-preserved : goal.loop-check-preserved
loop-check-preserved c =
    let code = code_of c.args.matrix.now in
    let ms = c.args.moves.now in
    let j = c.loop-check.check in
    let old = c.loop-check.gives in
    let inv = c.loop-check.invariant in
    elim c.if-own-gt0.branch [
      | then-own-gt0 w ↦ (
          let t = get_or w.members_at.result.now w.from.result 0 in
          let a = amount_of ms j in
          let v = (get_or old t 0 + a) % 4294967296 in
          let is : t ≡ target_of code ms j = ap₂ (λ l k. get_or l k 0) w.members_at.ensures.are w.from.ensures in
          record {
            long = ap length w.gives-is ∙ length-set old t v ∙ inv.long;
            are = λ i low. ap (λ l. get_or l i 0) w.gives-is ∙ elim (cases_eq t i) [
              | inl same ↦ (
                  let room : t < length old = omega (arith, same, low, inv.long) in
                  let put : get_or (set old t v) i 0 ≡ v = ap (λ k. get_or (set old t v) k 0) (sym same) ∙ get_or-set_same old t v 0 room in
                  let was : get_or old t 0 ≡ given code ms j i % 2 ^ 32 = ap (λ k. get_or old k 0) same ∙ inv.are i low in
                  let more = given_more code ms j i (sym is ∙ same) in
                  omega (arith, put, was, more)
                  )
              | inr other ↦ (
                  let ne : target_of code ms j ≢ i = λ e. other (is ∙ e) in
                  get_or-set_other old t i v 0 (λ e. other (sym e)) ∙ inv.are i low ∙ ap (λ n. n % 2 ^ 32) (sym (given_other code ms j i ne))
                  )
            ];
          }
          )
      | else-own-gt0 w ↦ (
          let none : amount_of ms j ≡ 0 = omega arith in
          record {
            long = ap length w.gives-is ∙ inv.long;
            are = λ i low. ap (λ l. get_or l i 0) w.gives-is ∙ inv.are i low ∙ ap (λ n. n % 2 ^ 32) (sym (given_none code ms j i none));
          }
          )
    ]
