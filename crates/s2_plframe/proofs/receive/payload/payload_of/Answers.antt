use Rattle.std.proofs.Common.{◌≡◌, ◌+◌, ◌-◌, ◌*◌, ◌<◌, ◌≤◌, ◌∙◌, ap, pos, length, arith}
use Rattle.std.proofs.lemmas.List.FromFn.{fill_by_all}
use Rattle.s2_mode.specs.Symbols.{symbol, symbol_at}
use Rattle.s2_mode.specs.Mode.{slots_of, symbols_in}
use Rattle.s2_scramble.specs.Gold.{quarter_turns}
use Rattle.s2_scramble.specs.Rotations.{rotated_back}
use Rattle.s2_scramble.proofs.Pieces.{get_or-mid_of}
use Rattle.s2_plframe.specs.Payload.{slot_place, received_symbol, received_payload}
use Rattle.s2_plframe.specs.Inside.{place_behind}
use Rattle.s2_plframe.proofs.Payloads.{place_is, place_within, payload_again}
use Rattle.s2_plframe.proofs.receive.payload.payload_of.Goals as goal
use borrow.Rule.Slice.PartMut.{mid_of}

pub returns-clause-is : goal.returns-clause-is
returns-clause-is c =
    let m = c.args.mode in
    let frame = c.args.frame.now in
    let gold = c.args.gold.now in
    let valid = c.pilot_blocks-blocks.ensures.valid in
    let none = symbol (pos 0) (pos 0) in
    let n = length frame - 90 in
    let sized : length frame ≡ symbols_in m = c.requires.frame in
    let some : 90 ≤ symbols_in m = omega (arith, c.pilot_blocks-blocks.ensures.sizes.symbols) in
    fill_by_all (received_symbol m gold frame) c.read_slots.new.out (90 * slots_of m) none (c.read_slots.auto.out ∙ c.requires.room)
    (λ s lt.
    let place : place_behind c.pilot_blocks-blocks.result s ≡ slot_place m s = ap (λ b. place_behind b s) c.pilot_blocks-blocks.ensures.is ∙ place_is m m.pilots s valid (λ r. m.pilots) lt in
    let within : 90 + slot_place m s < symbols_in m = place_within m m.pilots s valid (λ r. m.pilots) lt in
    let inside : slot_place m s < n = omega arith in
    c.read_slots.ensures s (omega arith)
    ∙ (λ t. rotated_back (quarter_turns gold (place t)) (((λ r. symbol_at (mid_of 90 n frame) (place r)) ∙ get_or-mid_of none 90 n frame (slot_place m s) inside) t)))

pub returns-clause-undoes : goal.returns-clause-undoes
returns-clause-undoes c = λ sent long can framed.
    returns-clause-is c ∙ (ap (received_payload c.args.mode c.args.gold.now) framed ∙ payload_again c.args.mode c.args.gold.now sent c.pilot_blocks-blocks.ensures.valid long can)
