use Rattle.std.proofs.Common.{◌≡◌, ◌*◌, ◌≤◌, ap, ◌∙◌, arith}
use Rattle.std.proofs.Math.Nat.{mul-le-mul_right}
use Rattle.s2_mode.specs.Shape.{Shape}
use Rattle.s2_minsum.specs.Layout.{entry_count}
use Rattle.s2_minsum.proofs.entries.decoder_len.Goals as goal

pub returns : goal.returns
returns c = λ r lt.
    let rows = c.args.matrix.now in
    let most = c.max_entries.result in
    let g = c.group.ensures.is ∙ ap (λ (s : Shape). s.group) c.shape.ensures.is in
    let same : most * c.group.result ≡ most * rows.shape.group = ap (λ x. most * x) g in
    let one : entry_count rows r * rows.shape.group ≤ most * rows.shape.group = mul-le-mul_right rows.shape.group (c.max_entries.ensures.most r lt) in
    omega (arith, one, same)
