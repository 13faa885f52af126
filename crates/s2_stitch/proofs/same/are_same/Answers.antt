use Rattle.std.proofs.Common.{◌≡◌, ◌∙◌, ◌&&◌, ◌<◌, get_or, length, take, pos, arith, sym, rules}
use Rattle.std.proofs.lemmas.List.{take_more, length-take-le}
use Rattle.s2_mode.specs.declared.symbols.Symbol.{Symbol}
use Rattle.s2_stitch.specs.Recalling.{are_same, is_same}
use Rattle.s2_stitch.proofs.SameLemmas.{one_more}
use Rattle.s2_stitch.proofs.same.are_same.Goals as goal

pub symbols-preserved : goal.symbols-preserved
symbols-preserved c =
    let xs = c.args.own.now in
    let ys = c.args.symbols.now in
    let k = c.symbols.k in
    let none : Symbol = record { i = pos 0; q = pos 0 } in
    let here : k < length xs = omega (arith, c.symbols-test.true) in
    let there : k < length ys = omega (arith, here, c.if-own-symbols.false) in
    let step : c.is_same-same.result ≡ is_same (get_or xs k none) (get_or ys k none) = search rules in
    (λ i. c.symbols.invariant i && step i)
    ∙ sym (one_more is_same (take k xs) (take k ys) (get_or xs k none) (get_or ys k none) (omega (arith, length-take-le k xs (omega (arith, here)), length-take-le k ys (omega (arith, there)))))
    ∙ sym (λ i. are_same (take_more xs k none here i) (take_more ys k none there i))
