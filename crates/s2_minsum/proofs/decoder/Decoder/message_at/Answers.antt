use Rattle.std.proofs.Common.{rules, ◌≡◌, ◌+◌, ◌*◌, ◌/◌, ◌%◌, ◌<◌, cond, true, length, get_or, pos, SFits, w16, ap, sym, ◌∙◌, arith}
use Rattle.std.proofs.lemmas.Int.{to_z-of_z}
use Rattle.std.proofs.lemmas.List.{get_or_default}
use Rattle.std.proofs.lemmas.List.Elements.{filter_passes}
use Rattle.s2_mode.specs.Shape.{code_bits}
use Rattle.s2_matrix.specs.Total.{upto}
use Rattle.s2_matrix.specs.Code.{code_of, members, is_member}
use Rattle.s2_matrix.proofs.Members.{members_below}
use Rattle.s2_bits.specs.Lanes16.{signed16}
use Rattle.s2_minsum.specs.Layout.{first_row, place_at, kept_of, message_of}
use Rattle.s2_minsum.specs.Decoding.{Decoding}
use Rattle.s2_minsum.proofs.StepStates.{is_edge-true}
use Rattle.s2_minsum.proofs.decoder.Decoder.message_at.Goals as goal

pub returns : goal.returns
returns c =
    let d = c.self.inside in
    let rows = d.matrix.now in
    let code = code_of rows in
    let check = c.args.check in
    let view = c.self.view_is in
    let h : check < code.checks = omega (arith, c.requires.check, ap (λ (v : Decoding). (code_of v.rows).checks) view) in
    let lt : c.args.at < length (members code check) = omega (arith, c.requires.at, ap (λ (v : Decoding). length (members (code_of v.rows) check)) view) in
    let i = get_or (members code check) c.args.at 0 in
    let has : is_member rows check i ≡ true = filter_passes (is_member rows check) (upto (code_bits rows.shape)) c.args.at 0 lt in
    let edge = is_edge-true code check i h (members_below code check c.args.at 0 lt) has in
    let items = d.messages.items in
    let x = c.index.result.now in
    let p = (first_row rows (check % rows.shape.q) + place_at rows check i) * rows.shape.group + check / rows.shape.q in
    let fits : SFits w16 c.cast_signed.result = search rules in
    let at : c.message_place.result ≡ p = c.message_place.ensures.is in
    let room : p < length items = omega (arith, at, c.message_place.ensures.within, c.self.invariant.numbers.messages_long) in
    to_z-of_z w16 c.cast_signed.result fits ∙ c.cast_signed.ensures
    ∙ ap signed16 (c.index.ensures ∙ ap (λ k. get_or items k x) at ∙ get_or_default items p x 0 room)
    ∙ sym (ap (λ t. cond t (signed16 (get_or items p 0)) (pos 0)) edge)
    ∙ ap (λ (v : Decoding). message_of v.rows (kept_of v.rows v.messages) check (get_or (members (code_of v.rows) check) c.args.at 0)) view
