use Rattle.s2_commands.proofs.Names.{ℕ, List, ◌++◌, ◌∙◌, ap, codes, decimal, packet_note}
use Rattle.s2_commands.proofs.refusals.packet_note.Goals as goal

pub returns : goal.returns
unfolding packet_note
returns c =
    let start = codes "s2: note: packet " ++ decimal c.args.packet in
    let first = c.push_number.ensures.bytes ∙ ap (λ l. l ++ start) c.new-line.ensures in
    let place =
    c.push_number-2.ensures.bytes ∙ ap (λ l. l ++ (codes " begins at byte " ++ decimal c.packet_place.result)) first
    ∙ ap (λ n. start ++ (codes " begins at byte " ++ decimal n)) c.packet_place.ensures in
    let colon = c.push.ensures ∙ (λ t. place t ++ c.colon_before.ensures.is t) in
    let hint = c.push-2.ensures ∙ ap (λ l. l ++ c.args.hint.now) colon in
    c.push-3.ensures ∙ ap (λ l. l ++ codes "\n") hint
