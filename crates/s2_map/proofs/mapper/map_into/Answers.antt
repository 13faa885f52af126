use Rattle.std.proofs.Common.{◌≡◌, ◌+◌, ◌*◌, Bool, List, length, arith, sym, ap, ◌∙◌, true, pos}
use Rattle.std.proofs.lemmas.List.FromFn.{fill_by_all}
use Rattle.s2_mode.specs.Symbols.{symbol, symbol_at}
use Rattle.s2_mode.specs.Mode.{is_qpsk, slots_of}
use Rattle.s2_mode.proofs.Modes.{frame_sizes}
use Rattle.s2_bits.specs.Bits.{bit_at, number}
use Rattle.s2_map.specs.Mapping.{qpsk_points, payload_symbol}
use Rattle.s2_map.proofs.Labels.{width_qpsk, width_psk, qpsk_symbol}
use Rattle.s2_map.proofs.mapper.map_into.Goals as goal

pub map_pairs-requires : goal.map_pairs-requires
map_pairs-requires c =
    let m = c.args.mode in
    let sizes = frame_sizes m c.is_qpsk.ensures.valid in
    let w = width_qpsk m (sym c.is_qpsk.ensures.is ∙ c.if-is_qpsk.true) in
    ap length c.truths-bits.ensures ∙ (c.requires.codeword ∙ (sizes.payload ∙ (λ t. w t * sym c.requires.room t)))

pub map_rows-requires-clause-psk : goal.map_rows-requires-clause-psk
map_rows-requires-clause-psk c = sym c.is_qpsk.ensures.is ∙ c.if-is_qpsk.false

pub map_rows-requires-clause-codeword : goal.map_rows-requires-clause-codeword
map_rows-requires-clause-codeword c = ap length c.truths-bits.ensures ∙ c.requires.codeword

pub map_rows-requires-clause-rows : goal.map_rows-requires-clause-rows
map_rows-requires-clause-rows c =
    let m = c.args.mode in
    let sizes = frame_sizes m c.is_qpsk.ensures.valid in
    let w = width_psk m (sym c.is_qpsk.ensures.is ∙ c.if-is_qpsk.false) in
    sizes.payload ∙ (λ t. w t * sym c.requires.room t)

pub returns-then-is_qpsk : goal.returns-then-is_qpsk
returns-then-is_qpsk c =
    let m = c.args.mode in
    let codeword = c.args.codeword.now in
    let e : is_qpsk m ≡ true = sym c.is_qpsk.ensures.is ∙ c.if-is_qpsk.true in
    fill_by_all (payload_symbol m codeword) c.map_pairs.new.payload (90 * slots_of m) (symbol (pos 0) (pos 0)) (c.map_pairs.auto.payload ∙ c.requires.room)
    (λ s lt. c.map_pairs.ensures s (omega arith)
    ∙ (ap (λ (l : List Bool). symbol_at qpsk_points (2 * number (bit_at l (2 * s)) + number (bit_at l (2 * s + 1)))) c.truths-bits.ensures
    ∙ sym (qpsk_symbol m codeword s e)))

pub returns-else-is_qpsk : goal.returns-else-is_qpsk
returns-else-is_qpsk c =
    let m = c.args.mode in
    let codeword = c.args.codeword.now in
    fill_by_all (payload_symbol m codeword) c.map_rows.new.payload (90 * slots_of m) (symbol (pos 0) (pos 0)) (c.map_rows.auto.payload ∙ c.requires.room)
    (λ s lt. c.map_rows.ensures s (omega arith) ∙ ap (λ l. payload_symbol m l s) c.truths-bits.ensures)
