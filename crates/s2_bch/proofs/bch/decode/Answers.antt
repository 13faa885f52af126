use Rattle.std.proofs.Common.{arith, ◌≡◌, ◌+◌, length, ◌∙◌, sym, ap, subst}
use Rattle.std.specs.Prelude.{drop}
use Rattle.s2_bch.specs.Generators.{generator_of}
use Rattle.s2_bch.specs.Registers.{rest_of}
use Rattle.s2_bch.specs.Words.{IsMultiple}
use Rattle.s2_bch.specs.Codes.{IsBchWord}
use Rattle.s2_bch.proofs.GeneratorFacts.{generator_facts}
use Rattle.s2_bch.proofs.CodeFacts.{words_same}
use Rattle.s2_bch.proofs.Distances.{distance_self}
use Rattle.s2_bch.proofs.RestFacts.{zero_rest, length-rest}
use Rattle.s2_bch.proofs.bch.decode.Goals as goal

pub rest-left-requires : goal.rest-left-requires
rest-left-requires c =
    let made = generator_facts c.args.mode c.requires.valid c.requires.sizes in
    record {
      table = c.requires.table.size;
      whole_bytes = omega (arith, c.kbch.ensures.is, c.requires.sizes.field);
      more = omega (arith, c.kbch.ensures.is, made.size, c.requires.word);
      few = omega (arith, c.kbch.ensures.is, made.size, c.requires.table.fits, c.requires.word);
    }

pub returns-then-is_zero-clause-some : goal.returns-then-is_zero-clause-some
returns-then-is_zero-clause-some c =
    let made = generator_facts c.args.mode c.requires.valid c.requires.sizes in
    let t = drop 1 (generator_of c.args.mode) in
    let size : length c.args.word.now ≡ c.kbch.result + length t = omega (arith, c.kbch.ensures.is, made.size, c.requires.word) in
    let multiple = zero_rest t c.kbch.result c.args.word.now size c.rest-left.result (c.rest-left.ensures t c.requires.table size)
    (c.is_zero.ensures.0 c.if-is_zero.true) in (
      record { size = c.requires.word; multiple = subst (λ g. IsMultiple g c.args.word.now) (sym made.begins) multiple },
      sym (distance_self c.args.word.now),
      omega arith,
    )

pub returns-then-is_zero-clause-only : goal.returns-then-is_zero-clause-only
returns-then-is_zero-clause-only c v hv near =
    let made = generator_facts c.args.mode c.requires.valid c.requires.sizes in
    let t = drop 1 (generator_of c.args.mode) in
    let size : length c.args.word.now ≡ c.kbch.result + length t = omega (arith, c.kbch.ensures.is, made.size, c.requires.word) in
    let multiple = zero_rest t c.kbch.result c.args.word.now size c.rest-left.result (c.rest-left.ensures t c.requires.table size)
    (c.is_zero.ensures.0 c.if-is_zero.true) in
    let is : IsBchWord c.args.mode c.args.word.now =
    record { size = c.requires.word; multiple = subst (λ g. IsMultiple g c.args.word.now) (sym made.begins) multiple } in
    words_same c.args.mode c.requires.valid c.args.word.now v is hv (omega (arith, near))

pub write-requires : goal.write-requires
write-requires c =
    let made = generator_facts c.args.mode c.requires.valid c.requires.sizes in
    omega (arith, made.size, c.requires.bits, c.requires.table.fits)

pub correct-requires-clause-bits : goal.correct-requires-clause-bits
correct-requires-clause-bits c =
    let made = generator_facts c.args.mode c.requires.valid c.requires.sizes in
    let t = drop 1 (generator_of c.args.mode) in
    let size : length c.args.word.now ≡ c.kbch.result + length t = omega (arith, c.kbch.ensures.is, made.size, c.requires.word) in
    c.write.ensures (rest_of t c.kbch.result c.args.word.now)
    (omega (arith, length-rest t c.kbch.result c.args.word.now size, made.size, c.requires.bits))
    (c.rest-left.ensures t c.requires.table size)
    ∙ ap (λ n. rest_of t n c.args.word.now) c.kbch.ensures.is
