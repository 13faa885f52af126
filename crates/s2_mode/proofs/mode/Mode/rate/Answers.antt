use Rattle.std.proofs.Common.{◌≡◌, ◌∙◌, [], get_or, map, ap}
use Rattle.std.specs.Fmt.{digits}
use Rattle.s2_mode.specs.Table.{rate, rates, no_sizes, code_rate_text}
use Rattle.s2_mode.specs.Mode.{rate_of}
use Rattle.s2_mode.proofs.CodeRates.{text_at, sizes_at}
use Rattle.s2_mode.proofs.mode.Mode.rate.Goals as goal

pub returns-clause-text : goal.returns-clause-text
unfolding rate_of code_rate_text digits
returns-clause-text c =
    let said : c.line_at.result.text.now ≡ get_or (map code_rate_text rates) c.rate_index.result [] = c.line_at.ensures.text in
    said ∙ text_at c.rate_index.result c.rate_index.ensures.within ∙ ap (λ i. code_rate_text (get_or rates i (rate 0 1 0 0 0 0 0))) c.rate_index.ensures.is

pub returns-clause-sizes : goal.returns-clause-sizes
unfolding rate_of
returns-clause-sizes c =
    let said : c.line_at.result.sizes ≡ get_or (map (λ line. line.sizes) rates) c.rate_index.result no_sizes = c.line_at.ensures.sizes in
    said ∙ sizes_at c.rate_index.result c.rate_index.ensures.within ∙ ap (λ i. (get_or rates i (rate 0 1 0 0 0 0 0)).sizes) c.rate_index.ensures.is
