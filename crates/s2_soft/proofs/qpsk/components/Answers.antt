use Rattle.std.proofs.Common.{◌≡◌, ◌+◌, ◌*◌, ap, ◌∙◌, arith, w16}
use Rattle.std.specs.Int.{cast_unsigned}
use Rattle.s2_mode.specs.Symbols.{symbol_at}
use Rattle.s2_bits.specs.Lanes.{lane}
use Rattle.s2_bits.specs.Lanes16.{signed16}
use Rattle.s2_soft.specs.Lanes.{component_at}
use Rattle.s2_soft.proofs.Components.{eight_words, word_of, is_i, is_q}
use Rattle.s2_soft.proofs.qpsk.components.Goals as goal

pub returns : goal.returns
returns c =
    let payload = c.args.payload.now in
    let at = c.args.at in
    let seen = c.words_from.ensures in
    let word_0 : signed16 (cast_unsigned w16 (symbol_at payload at).i) ≡ component_at payload (2 * at + 0) = word_of _ _ seen.a.i (is_i payload (2 * at + 0) at (omega arith)) in
    let word_1 : signed16 (cast_unsigned w16 (symbol_at payload at).q) ≡ component_at payload (2 * at + 1) = word_of _ _ seen.a.q (is_q payload (2 * at + 1) at (omega arith)) in
    let word_2 : signed16 (cast_unsigned w16 (symbol_at payload (at + 1)).i) ≡ component_at payload (2 * at + 2) = word_of _ _ seen.b.i (is_i payload (2 * at + 2) (at + 1) (omega arith)) in
    let word_3 : signed16 (cast_unsigned w16 (symbol_at payload (at + 1)).q) ≡ component_at payload (2 * at + 3) = word_of _ _ seen.b.q (is_q payload (2 * at + 3) (at + 1) (omega arith)) in
    let word_4 : signed16 (cast_unsigned w16 (symbol_at payload (at + 2)).i) ≡ component_at payload (2 * at + 4) = word_of _ _ seen.c.i (is_i payload (2 * at + 4) (at + 2) (omega arith)) in
    let word_5 : signed16 (cast_unsigned w16 (symbol_at payload (at + 2)).q) ≡ component_at payload (2 * at + 5) = word_of _ _ seen.c.q (is_q payload (2 * at + 5) (at + 2) (omega arith)) in
    let word_6 : signed16 (cast_unsigned w16 (symbol_at payload (at + 3)).i) ≡ component_at payload (2 * at + 6) = word_of _ _ seen.d.i (is_i payload (2 * at + 6) (at + 3) (omega arith)) in
    let word_7 : signed16 (cast_unsigned w16 (symbol_at payload (at + 3)).q) ≡ component_at payload (2 * at + 7) = word_of _ _ seen.d.q (is_q payload (2 * at + 7) (at + 3) (omega arith)) in
    λ k lt.
    ap (λ v. signed16 (lane v k)) seen.words
    ∙ eight_words (λ k. component_at payload (2 * at + k)) _ _ _ _ _ _ _ _ word_0 word_1 word_2 word_3 word_4 word_5 word_6 word_7 k lt
