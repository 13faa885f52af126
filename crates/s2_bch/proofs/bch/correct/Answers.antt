use Rattle.std.proofs.Common.{arith, ◌≡◌, ◌+◌, length, ◌∙◌, sym, ap, ap₂, subst, inl, inr}
use Rattle.std.specs.Prelude.{drop}
use Rattle.std.proofs.lemmas.Bool.{true≢false, cases_lt}
use Rattle.s2_mode.specs.Mode.{kbch_of, t_of}
use Rattle.s2_bits.specs.Bits.{differences}
use Rattle.s2_bch.specs.Generators.{generator_of}
use Rattle.s2_bch.specs.Registers.{rest_of}
use Rattle.s2_bch.specs.Words.{IsMultiple}
use Rattle.s2_bch.proofs.GeneratorFacts.{generator_facts}
use Rattle.s2_bch.proofs.RestFacts.{zero_rest, none_left}
use Rattle.s2_bch.proofs.NearWords.{shorter, values_in, only_in}
use Rattle.s2_bch.proofs.bch.correct.Goals as goal

pub correct_errors-count-requires-clause-short : goal.correct_errors-count-requires-clause-short
correct_errors-count-requires-clause-short c =
    omega (arith, shorter c.args.mode c.requires.valid c.args.workspace.now c.requires.workspace, c.requires.candidate)

pub correct_errors-count-requires-clause-rest : goal.correct_errors-count-requires-clause-rest
correct_errors-count-requires-clause-rest c =
    let is = c.copy_from_slice.ensures.after in
    values_in c.args.mode c.requires.valid c.requires.sizes c.args.workspace.now c.requires.workspace c.copy_from_slice.new.self c.args.bits.now
    (ap length is ∙ c.requires.word) (c.requires.bits ∙ ap (rest_of (drop 1 (generator_of c.args.mode)) (kbch_of c.args.mode)) (sym is))

pub rest-requires : goal.rest-requires
rest-requires c =
    let made = generator_facts c.args.mode c.requires.valid c.requires.sizes in
    record {
      table = c.requires.table.size;
      whole_bytes = omega (arith, c.kbch.ensures.is, c.requires.sizes.field);
      more = omega (arith, c.kbch.ensures.is, made.size, c.correct_errors-count.ensures.size);
      few = omega (arith, c.kbch.ensures.is, made.size, c.requires.table.fits, c.correct_errors-count.ensures.size);
    }

pub returns-then-count-t-clause-none : goal.returns-then-count-t-clause-none
returns-then-count-t-clause-none c v word =
    let old = c.args.word.now in
    let after = c.copy_from_slice.ensures.after in
    elim (cases_lt (t_of c.args.mode) (differences (length old) old v)) [
      | inl more ↦ more
      | inr near ↦
          let is = only_in c.args.mode c.requires.valid c.requires.sizes c.args.workspace.now c.requires.workspace old c.copy_from_slice.new.self c.correct_errors-count.new.candidate
          after c.requires.word c.correct_errors-count.ensures.only v word near in
          let count : c.correct_errors-count.result ≡ differences (length old) old v = c.correct_errors-count.ensures.count ∙ ap₂ (λ u x. differences (length u) u x) after is in
          absurd (omega (arith, count, near, c.if-count-t.true, c.t.ensures.is))
    ]

pub returns-then-not-is_zero-clause-none : goal.returns-then-not-is_zero-clause-none
returns-then-not-is_zero-clause-none c v word =
    let made = generator_facts c.args.mode c.requires.valid c.requires.sizes in
    let t = drop 1 (generator_of c.args.mode) in
    let w = c.correct_errors-count.new.candidate in
    let size : length w ≡ c.kbch.result + length t = omega (arith, c.kbch.ensures.is, made.size, c.correct_errors-count.ensures.size) in
    none_left (t_of c.args.mode) c.kbch.result t c.args.word.now w v c.rest.result size (c.rest.ensures t c.requires.table size)
    (λ z. true≢false (sym (c.is_zero.ensures.1 z) ∙ c.if-not-is_zero.true))
    (subst (λ g. IsMultiple g v) made.begins word.multiple)
    (λ near. only_in c.args.mode c.requires.valid c.requires.sizes c.args.workspace.now c.requires.workspace c.args.word.now c.copy_from_slice.new.self w
    c.copy_from_slice.ensures.after c.requires.word c.correct_errors-count.ensures.only v word near)

pub returns-clause-some : goal.returns-clause-some
returns-clause-some c =
    let made = generator_facts c.args.mode c.requires.valid c.requires.sizes in
    let t = drop 1 (generator_of c.args.mode) in
    let w = c.correct_errors-count.new.candidate in
    let size : length w ≡ c.kbch.result + length t = omega (arith, c.kbch.ensures.is, made.size, c.correct_errors-count.ensures.size) in
    let put : c.copy_from_slice-2.new.self ≡ w = c.copy_from_slice-2.ensures.after in
    let multiple = zero_rest t c.kbch.result w size c.rest.result (c.rest.ensures t c.requires.table size)
    (c.is_zero.ensures.0 c.if-not-is_zero.false) in (
      record {
        size = omega (arith, ap length put, c.correct_errors-count.ensures.size);
        multiple = subst (λ u. IsMultiple (generator_of c.args.mode) u) (sym put) (subst (λ g. IsMultiple g w) (sym made.begins) multiple);
      },
      c.correct_errors-count.ensures.count ∙ ap₂ (λ u v. differences (length u) u v) c.copy_from_slice.ensures.after (sym put),
      omega (arith, c.if-count-t.false, c.t.ensures.is),
    )

pub returns-clause-only : goal.returns-clause-only
returns-clause-only c v word near =
    c.copy_from_slice-2.ensures.after
    ∙ only_in c.args.mode c.requires.valid c.requires.sizes c.args.workspace.now c.requires.workspace c.args.word.now c.copy_from_slice.new.self c.correct_errors-count.new.candidate
    c.copy_from_slice.ensures.after c.requires.word c.correct_errors-count.ensures.only v word near
