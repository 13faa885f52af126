use Rattle.std.proofs.Common.{◌+◌, ◌*◌, sym, ◌∙◌, arith}
use Rattle.s2_records.proofs.LabelLemmas.{most_bits, within_two, within_three, two_are, three_are}
use Rattle.s2_records.proofs.labels.label_at.Goals as goal

pub overflow_mul-s : goal.overflow_mul-s
overflow_mul-s c =
    let inside = within_two c.args.mode c.args.s c.is_qpsk.ensures.valid (sym c.is_qpsk.ensures.is ∙ c.if-is_qpsk.true) c.requires.symbol in
    omega (arith, inside, most_bits c.args.mode)

pub two_from-requires-clause-within : goal.two_from-requires-clause-within
two_from-requires-clause-within c = within_two c.args.mode c.args.s c.is_qpsk.ensures.valid (sym c.is_qpsk.ensures.is ∙ c.if-is_qpsk.true) c.requires.symbol

pub overflow_mul-s-else-is_qpsk : goal.overflow_mul-s-else-is_qpsk
overflow_mul-s-else-is_qpsk c =
    let inside = within_three c.args.mode c.args.s c.is_qpsk.ensures.valid (sym c.is_qpsk.ensures.is ∙ c.if-is_qpsk.false) c.requires.symbol in
    omega (arith, inside, most_bits c.args.mode)

pub two_from-requires-else-is_qpsk-clause-within : goal.two_from-requires-else-is_qpsk-clause-within
two_from-requires-else-is_qpsk-clause-within c =
    let inside = within_three c.args.mode c.args.s c.is_qpsk.ensures.valid (sym c.is_qpsk.ensures.is ∙ c.if-is_qpsk.false) c.requires.symbol in
    omega (arith, inside)

pub overflow_mul-s-else-is_qpsk-2 : goal.overflow_mul-s-else-is_qpsk-2
overflow_mul-s-else-is_qpsk-2 c =
    let inside = within_three c.args.mode c.args.s c.is_qpsk.ensures.valid (sym c.is_qpsk.ensures.is ∙ c.if-is_qpsk.false) c.requires.symbol in
    omega (arith, inside, most_bits c.args.mode)

pub overflow_add-s : goal.overflow_add-s
overflow_add-s c =
    let inside = within_three c.args.mode c.args.s c.is_qpsk.ensures.valid (sym c.is_qpsk.ensures.is ∙ c.if-is_qpsk.false) c.requires.symbol in
    omega (arith, inside, most_bits c.args.mode)

pub interleaved-requires-clause-within : goal.interleaved-requires-clause-within
interleaved-requires-clause-within c = within_three c.args.mode c.args.s c.is_qpsk.ensures.valid (sym c.is_qpsk.ensures.is ∙ c.if-is_qpsk.false) c.requires.symbol

pub returns-then-is_qpsk : goal.returns-then-is_qpsk
returns-then-is_qpsk c = c.two_from.ensures.is ∙ two_are c.args.mode c.args.codeword.now c.args.s (sym c.is_qpsk.ensures.is ∙ c.if-is_qpsk.true)

pub returns-else-is_qpsk : goal.returns-else-is_qpsk
returns-else-is_qpsk c =
    (λ t. 2 * c.two_from-else-is_qpsk.ensures.is t + c.interleaved.ensures.is t) ∙ three_are c.args.mode c.args.codeword.now c.args.s (sym c.is_qpsk.ensures.is ∙ c.if-is_qpsk.false)
