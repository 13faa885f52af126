use Rattle.std.proofs.Common.{◌≡◌, suc, ◌+◌, ◌-◌, ◌*◌, ◌≤◌, List, length, take, drop, ap, sym, subst, ◌∙◌, arith}
use Rattle.std.proofs.Math.Nat.{mul-le-mul_right}
use Rattle.std.proofs.lemmas.List.{length-take-le, length-drop}
use Rattle.s2_mode.specs.Shape.{Shape}
use Rattle.s2_rows.specs.Rows.{Rows}
use Rattle.s2_minsum.specs.declared.kernels.Circulant.{Circulant}
use Rattle.s2_minsum.specs.Layout.{entries_of, entry_count, lacked_row}
use Rattle.s2_minsum.specs.Decoding.{AreFit}
use Rattle.s2_minsum.proofs.FirstRows.{few_entries}
use Rattle.s2_minsum.proofs.LayerCalls.{are_in, length-entries}
use Rattle.s2_settle.proofs.Layers.{gives, layer_part}
use Rattle.s2_settle.proofs.one_layer.run_layer.Goals as goal

pub run-requires-clause-entries : goal.run-requires-clause-entries
run-requires-clause-entries c =
    let rows = c.args.matrix.now in
    let g = sym (c.group-n.ensures.is ∙ ap (λ (s : Shape). s.group) c.shape-shape.ensures.is) in
    let fit = subst AreFit c.requires.layers c.entries-entries.ensures.fit in
    let es_is = c.entries-entries.ensures.are ∙ ap (λ (x : Rows). entries_of x c.args.r) c.requires.layers in
    are_in rows fit c.args.r c.requires.layer (length c.args.rests.now) c.requires.long.rests_long c.entries-entries.result.now c.group-n.result (sym es_is) g

pub run-requires-clause-many : goal.run-requires-clause-many
run-requires-clause-many c =
    let rows = c.args.matrix.now in
    let fit = subst AreFit c.requires.layers c.entries-entries.ensures.fit in
    let es_is = c.entries-entries.ensures.are ∙ ap (λ (x : Rows). entries_of x c.args.r) c.requires.layers in
    omega (arith, ap (λ (es : List Circulant). length es) es_is, length-entries rows c.args.r, few_entries rows fit.shaped c.args.r)

pub run-requires-clause-room : goal.run-requires-clause-room
run-requires-clause-room c =
    let rows = c.args.matrix.now in
    let g = c.group-n.ensures.is ∙ ap (λ (s : Shape). s.group) c.shape-shape.ensures.is in
    let es_is = c.entries-entries.ensures.are ∙ ap (λ (x : Rows). entries_of x c.args.r) c.requires.layers in
    let count = ap (λ (es : List Circulant). length es) es_is ∙ length-entries rows c.args.r in
    let product : length c.entries-entries.result.now * c.group-n.result ≡ entry_count rows c.args.r * rows.shape.group = λ i. count i * g i in
    omega (arith, product, c.requires.room c.args.r c.requires.layer)

pub returns : goal.returns
returns c =
    let rows = c.args.matrix.now in
    let n = c.group-n.result in
    let r = c.args.r in
    let g = c.group-n.ensures.is ∙ ap (λ (s : Shape). s.group) c.shape-shape.ensures.is in
    let fit = subst AreFit c.requires.layers c.entries-entries.ensures.fit in
    let es = c.entries-entries.result.now in
    let es_is = c.entries-entries.ensures.are ∙ ap (λ (x : Rows). entries_of x r) c.requires.layers in
    let w = r * n + n - r * n in
    let width : w ≡ n = omega arith in
    let q = rows.shape.q in
    let targets = c.args.targets.now in
    let amounts = c.args.amounts.now in
    let product : q * n ≡ q * rows.shape.group = ap (λ x. q * x) g in
    let t_long : length targets ≡ q * n = omega (arith, c.requires.long.targets_long, product) in
    let a_long : length amounts ≡ q * n = omega (arith, c.requires.long.amounts_long, product) in
    let t_part = layer_part n r w q targets c.requires.layer t_long width in
    let a_part = layer_part n r w q amounts c.requires.layer a_long width in
    let last = c.last_row-last.ensures ∙ ap (λ (s : Shape). lacked_row s r) c.shape-shape.ensures.is in
    let whole : suc r * n ≤ q * n = mul-le-mul_right n c.requires.layer in
    let t_in : length (take w (drop (r * n) targets)) ≡ n = length-take-le w (drop (r * n) targets) (omega (arith, length-drop (r * n) targets)) ∙ width in
    let a_in : length (take w (drop (r * n) amounts)) ≡ n = length-take-le w (drop (r * n) amounts) (omega (arith, length-drop (r * n) amounts)) ∙ width in
    gives rows c.args.rests.now targets amounts c.run.new.rests c.run.new.targets c.run.new.amounts c.args.step r n w c.last_row-last.result es (take w (drop (r * n) targets)) (take w (drop (r * n) amounts)) fit.shaped.group_some c.requires.long c.requires.layer
    (sym g) width (sym last) (sym es_is) (sym t_part) (sym a_part)
    (record {
      rests_long = c.run.auto.rests;
      targets_long = c.run.auto.targets ∙ t_in;
      amounts_long = c.run.auto.amounts ∙ a_in;
      targets = c.run.ensures.targets;
      amounts = c.run.ensures.amounts;
      changes = c.run.ensures.rests;
    })
