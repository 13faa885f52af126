use Rattle.std.proofs.Common.{◌≡◌, ◌≢◌, ◌+◌, ◌*◌, ◌∙◌, List, Bool, length, take, drop, ap, sym, arith}
use Rattle.s2_mode.specs.Symbols.{symbol_at}
use Rattle.s2_bits.specs.Bits.{bit_at, number}
use Rattle.s2_map.specs.Mapping.{psk_points}
use Rattle.s2_map.proofs.Labels.{psk_reversed, psk_forward}
use Rattle.s2_map.proofs.Eights.{whole_blocks}
use Rattle.s2_map.proofs.mapper.map_rows.Goals as goal

pub map_columns-requires-clause-blocks : goal.map_columns-requires-clause-blocks
map_columns-requires-clause-blocks c = whole_blocks c.args.mode (length c.args.payload.now) c.requires.rows

pub map_columns-requires-else-modcod-eq-PSK_3_5-clause-blocks : goal.map_columns-requires-else-modcod-eq-PSK_3_5-clause-blocks
map_columns-requires-else-modcod-eq-PSK_3_5-clause-blocks c = whole_blocks c.args.mode (length c.args.payload.now) c.requires.rows

pub returns-then-modcod-eq-PSK_3_5 : goal.returns-then-modcod-eq-PSK_3_5
returns-then-modcod-eq-PSK_3_5 c = λ s lt.
    let codeword : List Bool = c.args.bits.now in
    let rows = length c.args.payload.now in
    let first = c.split_at.ensures.front in
    let second = c.split_at-2.ensures.front ∙ ap (take rows) c.split_at.ensures.back in
    let third = c.split_at-2.ensures.back ∙ ap (drop rows) c.split_at.ensures.back in
    let is : c.args.mode.modcod ≡ 12 = sym c.modcod.ensures.is ∙ c.if-modcod-eq-PSK_3_5.true in
    c.map_columns.ensures s (omega arith)
    ∙ ((λ t. symbol_at psk_points (4 * number (bit_at (third t) s) + 2 * number (bit_at (second t) s) + number (bit_at (first t) s)))
    ∙ sym (psk_reversed c.args.mode codeword rows s c.requires.psk c.requires.rows is lt))

pub returns-else-modcod-eq-PSK_3_5 : goal.returns-else-modcod-eq-PSK_3_5
returns-else-modcod-eq-PSK_3_5 c = λ s lt.
    let codeword : List Bool = c.args.bits.now in
    let rows = length c.args.payload.now in
    let first = c.split_at.ensures.front in
    let second = c.split_at-2.ensures.front ∙ ap (take rows) c.split_at.ensures.back in
    let third = c.split_at-2.ensures.back ∙ ap (drop rows) c.split_at.ensures.back in
    let other : c.args.mode.modcod ≢ 12 = λ e. c.if-modcod-eq-PSK_3_5.false (c.modcod.ensures.is ∙ e) in
    c.map_columns-else-modcod-eq-PSK_3_5.ensures s (omega arith)
    ∙ ((λ t. symbol_at psk_points (4 * number (bit_at (first t) s) + 2 * number (bit_at (second t) s) + number (bit_at (third t) s)))
    ∙ sym (psk_forward c.args.mode codeword rows s c.requires.psk c.requires.rows other lt))
