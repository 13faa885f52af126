use Rattle.std.proofs.Common.{◌∙◌, ℕ, List, sym, subst, arith}
use Rattle.std.specs.Char.{is_ascii_digit}
use Rattle.std.specs.List.{AllPass}
use Rattle.std.proofs.lemmas.List.Sums.{prefix_len-le-length}
use Rattle.s2_names.proofs.DigitTexts.{taken_digits, split_is}
use Rattle.s2_names.proofs.rate_text.split_digits.Goals as goal

pub split_at-requires : goal.split_at-requires
split_at-requires c = omega (arith, c.digits_in.ensures, prefix_len-le-length is_ascii_digit c.args.text.now)

pub returns-in_default-clause-parts : goal.returns-in_default-clause-parts
returns-in_default-clause-parts c = (
  c.split_at.ensures.by_index.0,
  record {
    some = omega (arith, c.split_at.ensures.front_len, c.in_default);
    each = subst (λ (xs : List ℕ). AllPass is_ascii_digit xs) (sym c.split_at.ensures.front) (taken_digits c.args.text.now c.digits_in.result c.digits_in.ensures);
  },
)

pub returns-in_default-clause-only : goal.returns-in_default-clause-only
returns-in_default-clause-only c whole rest parts digits other =
    let split = split_is c.args.text.now whole rest c.digits_in.result parts digits.each other c.digits_in.ensures in
    (c.split_at.ensures.front ∙ split.front, c.split_at.ensures.back ∙ split.back)
