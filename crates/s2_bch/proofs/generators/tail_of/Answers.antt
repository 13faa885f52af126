use Rattle.std.proofs.Common.{arith, ◌∙◌, sym, refl}
use Rattle.s2_bch.proofs.Tails.{tail_16_8, tail_16_10, tail_16_12, tail_14_12}
use Rattle.s2_bch.proofs.GeneratorFacts.{tail_short, tail_8, tail_10, tail_12}
use Rattle.s2_bch.proofs.RegisterFacts.{holds_tail}
use Rattle.s2_bch.proofs.generators.tail_of.Goals as goal

pub returns-then-is_short-clause-held : goal.returns-then-is_short-clause-held
returns-then-is_short-clause-held c =
    holds_tail _ tail_14_12 _ refl (omega arith) (tail_short c.args.mode c.is_short.ensures.valid (sym c.is_short.ensures.is ∙ c.if-is_short.true))

pub returns-then-t-eq8-clause-held : goal.returns-then-t-eq8-clause-held
returns-then-t-eq8-clause-held c =
    holds_tail _ tail_16_8 _ refl (omega arith) (tail_8 c.args.mode (sym c.is_short.ensures.is ∙ c.if-is_short.false) (sym c.t.ensures.is ∙ c.if-t-eq8.true))

pub returns-then-t-eq10-clause-held : goal.returns-then-t-eq10-clause-held
returns-then-t-eq10-clause-held c =
    holds_tail _ tail_16_10 _ refl (omega arith)
    (tail_10 c.args.mode (sym c.is_short.ensures.is ∙ c.if-is_short.false) (sym c.t-else-t-eq8.ensures.is ∙ c.if-t-eq10.true))

pub returns-else-t-eq10-clause-held : goal.returns-else-t-eq10-clause-held
returns-else-t-eq10-clause-held c =
    holds_tail _ tail_16_12 _ refl (omega arith)
    (tail_12 c.args.mode c.is_short.ensures.valid (sym c.is_short.ensures.is ∙ c.if-is_short.false)
    (λ e. c.if-t-eq8.false (c.t.ensures.is ∙ e)) (λ e. c.if-t-eq10.false (c.t-else-t-eq8.ensures.is ∙ e)))
