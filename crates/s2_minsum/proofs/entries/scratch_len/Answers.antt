use Rattle.std.proofs.Common.{◌≡◌, ℕ, ◌+◌, ◌-◌, ◌*◌, ◌/◌, ◌<◌, ◌≤◌, ap, ◌∙◌, arith}
use Rattle.std.proofs.Math.Nat.{mul-le-mul_right, div-mul-le_self}
use Rattle.std.proofs.lemmas.Nat.{le-div}
use Rattle.s2_mode.specs.Shape.{Shape, IsShape}
use Rattle.s2_rows.specs.Rows.{Rows}
use Rattle.s2_minsum.specs.Layout.{entry_count}
use Rattle.s2_minsum.specs.Decoding.{HasRoom}
use Rattle.s2_minsum.proofs.entries.scratch_len.Goals as goal

-- a layer needs no more rows than the words hold
fits : (rows : Rows) → IsShape rows.shape → (words : ℕ) → HasRoom rows words → (r : ℕ) → r < rows.shape.q → entry_count rows r + 3 ≤ words / rows.shape.group
fits rows shaped words room r lt =
    le-div (entry_count rows r + 3) words rows.shape.group (omega (arith, shaped.group_some)) (room r lt)

-- so much room is no more than any that is enough
least : (rows : Rows) → IsShape rows.shape → (most : ℕ) → ((bound : ℕ) → ((r : ℕ) → r < rows.shape.q → entry_count rows r ≤ bound) → most ≤ bound) → (words : ℕ) → HasRoom rows words → (most + 3) * rows.shape.group ≤ words
least rows shaped most reached words room =
    let rest = words / rows.shape.group in
    let first : 3 ≤ rest = omega (arith, fits rows shaped words room 0 (omega (arith, shaped.q_some))) in
    let few : most ≤ rest - 3 = reached (rest - 3) (λ r lt. omega (arith, fits rows shaped words room r lt)) in
    let within : (most + 3) * rows.shape.group ≤ rest * rows.shape.group = mul-le-mul_right rows.shape.group (omega (arith, first, few)) in
    omega (arith, within, div-mul-le_self words rows.shape.group)

pub returns : goal.returns
returns c =
    let rows = c.args.matrix.now in
    let most = c.max_entries.result in
    let g = c.group.ensures.is ∙ ap (λ (s : Shape). s.group) c.shape.ensures.is in
    let same : (most + 3) * c.group.result ≡ (most + 3) * rows.shape.group = ap (λ x. (most + 3) * x) g in
    record {
      room = λ r lt.
          let one : (entry_count rows r + 3) * rows.shape.group ≤ (most + 3) * rows.shape.group = mul-le-mul_right rows.shape.group (omega (arith, c.max_entries.ensures.most r lt)) in
          omega (arith, one, same);
      least = λ words enough. omega (arith, same, least rows c.shape.ensures.valid most c.max_entries.ensures.reached words enough);
    }
