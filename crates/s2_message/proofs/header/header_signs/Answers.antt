use Rattle.std.proofs.Common.{◌≡◌, ◌+◌, ◌-◌, ◌<◌, ap, ◌∙◌, inl, inr, arith}
use Rattle.std.proofs.lemmas.Bool.{cases_lt}
use Rattle.s2_mode.specs.Symbols.{symbol_at}
use Rattle.s2_plframe.specs.Search.{decision}
use Rattle.s2_plframe.specs.Inside.{held}
use Rattle.s2_message.proofs.header.header_signs.Goals as goal

pub loop-k-preserved : goal.loop-k-preserved
loop-k-preserved c = λ j lt.
    let k = c.loop-k.k in
    let next = held c.with-signs.result.odd c.with-signs.result.even in
    elim (cases_lt j k) [
      | inl before ↦
          let place : k + 1 - 1 - j ≡ k - 1 - j + 1 = omega arith in
          let small : k - 1 - j < 127 = omega arith in
          ap next place ∙ (c.with-signs.ensures.others (k - 1 - j) small ∙ c.loop-k.invariant j before)
      | inr last ↦
          let place : k + 1 - 1 - j ≡ 0 = omega arith in
          let same : k ≡ j = omega arith in
          ap next place ∙ (c.with-signs.ensures.newest ∙ ap (λ n. decision (symbol_at c.args.symbols.now n)) same)
    ]
