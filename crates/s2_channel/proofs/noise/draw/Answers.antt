use Rattle.std.proofs.Common.{◌≡◌, ◌+ℤ◌, to_z, of_z, ap, sym, ◌∙◌, arith}
use Rattle.std.specs.Int.{w32}
use Rattle.std.proofs.lemmas.Int.{ints}
use Rattle.s2_channel.specs.Noise.{draw, word_sum}
use Rattle.s2_channel.specs.declared.strength.Strength.TheVariants as by
use Rattle.s2_channel.proofs.Draws.{drawn_by}
use Rattle.s2_channel.proofs.noise.draw.Goals as goal

pub returns-in-EsN0-clause-drawn : goal.returns-in-EsN0-clause-drawn
returns-in-EsN0-clause-drawn c =
    let by_esn0 = by.EsN0 c.in-EsN0.field-0 in
    let sum : c.entry_sum.result +ℤ c.entry_sum-in-EsN0.result ≡ word_sum by_esn0 c.next_word-first.result +ℤ word_sum by_esn0 c.next_word-second.result
    = ap (λ x. x +ℤ c.entry_sum-in-EsN0.result) c.entry_sum.ensures.sum ∙ ap (λ x. word_sum by_esn0 c.next_word-first.result +ℤ x) c.entry_sum-in-EsN0.ensures.sum in
    let wrapped : to_z w32 (of_z w32 (to_z w32 (of_z w32 c.entry_sum.result) +ℤ to_z w32 (of_z w32 c.entry_sum-in-EsN0.result))) ≡ c.entry_sum.result +ℤ c.entry_sum-in-EsN0.result
    = omega (arith, ints) in
    ap (λ x. (x, c.next_word-second.new.self)) (wrapped ∙ sum)
    ∙ drawn_by by_esn0 c.args.generator.now c.next_word-first.new.self c.next_word-second.new.self c.next_word-first.result c.next_word-second.result c.next_word-first.ensures c.next_word-second.ensures
    ∙ ap (λ l. draw l c.args.generator.now) (sym c.in-EsN0.is)
