use Rattle.std.proofs.Common.{◌≡◌, ap, ◌∙◌, ◌/◌, ◌%◌, get_or, arith}
use Rattle.std.proofs.lemmas.Int.{ints}
use Rattle.s2_channel.specs.Table.{entry}
use Rattle.s2_channel.proofs.noise.entry_sum.Goals as goal

pub returns-clause-sum : goal.returns-clause-sum
returns-clause-sum c =
    let bytes = c.to_le_bytes.ensures in
    let first : c.entry.result ≡ entry (c.args.word % 256) = c.entry.ensures.value ∙ ap (λ bs. entry (get_or bs 0 0)) bytes in
    let second : c.entry-2.result ≡ entry (c.args.word / 256 % 256) = c.entry-2.ensures.value ∙ ap (λ bs. entry (get_or bs 1 0)) bytes in
    let third : c.entry-3.result ≡ entry (c.args.word / 65536 % 256) = c.entry-3.ensures.value ∙ ap (λ bs. entry (get_or bs 2 0)) bytes in
    let fourth : c.entry-4.result ≡ entry (c.args.word / 16777216 % 256) = c.entry-4.ensures.value ∙ ap (λ bs. entry (get_or bs 3 0)) bytes in
    omega (arith, ints, first, second, third, fourth)
