use Rattle.std.proofs.Common.{ap, ◌≡◌, ◌+◌, ◌*◌, ◌≤◌, ◌<◌, ◌∙◌, ℕ, length, arith, pos, length-append, subst}
use Rattle.std.specs.Prelude.{◌-◌}
use Rattle.std.proofs.lemmas.List.FromFn.{fill_by_all}
use Rattle.s2_mode.specs.Symbols.{symbol, symbol_at}
use Rattle.s2_mode.specs.Mode.{symbols_in, slots_of, pilot_blocks_of}
use Rattle.s2_scramble.specs.Gold.{quarter_turns}
use Rattle.s2_scramble.specs.Rotations.{rotated}
use Rattle.s2_plframe.specs.Header.{header_symbol}
use Rattle.s2_plframe.specs.Frame.{frame_symbol}
use Rattle.s2_plframe.proofs.Blocks.{joined_frame}
use Rattle.s2_plframe.proofs.send.frame.frame_into.Goals as goal

pub returns : goal.returns
returns c =
    let m = c.args.mode in
    let payload = c.args.payload.now in
    let gold = c.args.gold.now in
    let header = c.write_header.new.out in
    let slots = c.write_slots.new.out in
    let same = c.pilot_blocks-blocks.ensures.is in
    let whole : symbols_in m ≡ 90 + 90 * slots_of m + 36 * pilot_blocks_of m = c.pilot_blocks-blocks.ensures.sizes.symbols in
    let front : length header ≡ 90 = c.write_header.auto.out ∙ omega (arith, c.split_at_mut-header.ensures.front_len) in
    let back : length slots ≡ 90 * slots_of m + 36 * pilot_blocks_of m = c.write_slots.auto.out ∙ omega (arith, c.split_at_mut-header.ensures.back_len, c.requires.room) in
    let long : length c.split_at_mut-header.result.1.now ≡ 90 * slots_of m + 36 * pilot_blocks_of m = omega (arith, c.split_at_mut-header.ensures.back_len, c.requires.room) in
    fill_by_all (frame_symbol m gold payload) _ (symbols_in m) (symbol (pos 0) (pos 0)) (length-append header slots ∙ omega arith)
    (joined_frame m gold payload header slots c.pilot_blocks-blocks.ensures.valid front (λ i lt. c.write_header.ensures i lt ∙ ap (λ n. header_symbol n i) c.pls_code.ensures)
    (λ u lt. c.write_slots.ensures.blocks u (omega arith))
    (subst (λ (b : ℕ). (u : ℕ) → 1476 * b ≤ u → u < 90 * slots_of m + 36 * pilot_blocks_of m → symbol_at slots u ≡ rotated (quarter_turns gold u) (symbol_at payload (u - 36 * b))) same
    (λ u past lt. c.write_slots.ensures.rest u past (omega arith))))
