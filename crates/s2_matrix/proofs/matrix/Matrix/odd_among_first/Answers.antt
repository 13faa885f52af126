use Rattle.std.proofs.Common.{rules, ℕ, ◌%◌, count_by, ap, sym, ◌∙◌}
use Rattle.s2_bits.specs.Bits.{bit_at}
use Rattle.s2_matrix.proofs.matrix.Matrix.odd_among_first.Goals as goal

pub returns-then-ones_in-eq1 : goal.returns-then-ones_in-eq1
returns-then-ones_in-eq1 c = record {
  within = search rules;
  odd = ap (λ (k : ℕ). k % 2) (sym (c.ones_in.ensures ∙ ap (count_by (bit_at c.args.codeword.now)) c.members_at.ensures.are)) ∙ c.if-ones_in-eq1.true;
  first = c.loop-check.invariant;
}
