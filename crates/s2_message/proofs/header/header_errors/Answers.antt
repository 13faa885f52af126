use Rattle.std.proofs.Common.{◌≡◌, ◌+◌, ◌*◌, ◌≤◌, length, subst, ◌∙◌, arith}
use Rattle.s2_mode.specs.Mode.{mode_of, slots_of, pilot_blocks_of, symbols_in}
use Rattle.s2_mode.proofs.Modes.{frame_sizes}
use Rattle.s2_plframe.specs.Header.{header_bit}
use Rattle.s2_plframe.specs.Inside.{IsHeader}
use Rattle.s2_message.proofs.Signs.{wrong_signs}
use Rattle.s2_message.proofs.header.header_errors.Goals as goal

pub header_signs-requires : goal.header_signs-requires
header_signs-requires c =
    let m = c.args.mode in
    let whole : symbols_in m ≡ 90 + 90 * slots_of m + 36 * pilot_blocks_of m = (frame_sizes m c.modcod.ensures.valid).symbols in
    omega (arith, whole, c.requires)

pub returns : goal.returns
returns c =
    let m = c.args.mode in
    let mode : mode_of c.modcod.result c.is_short.result c.has_pilots.result ≡ m = λ t. mode_of (c.modcod.ensures.is t) (c.is_short.ensures.is t) (c.has_pilots.ensures.is t) in
    let header : IsHeader (header_bit m) c.header_number.result = subst (λ n. IsHeader (header_bit n) c.header_number.result) mode c.header_number.ensures in
    let whole : symbols_in m ≡ 90 + 90 * slots_of m + 36 * pilot_blocks_of m = (frame_sizes m c.modcod.ensures.valid).symbols in
    let enough : 90 ≤ length c.args.symbols.now = omega (arith, whole, c.requires) in
    c.wrong_in.ensures
    ∙ wrong_signs m c.header_number.result c.window.result c.header_signs.result.odd c.header_signs.result.even c.args.symbols.now enough c.header_signs.ensures header c.window.ensures
