use Rattle.std.proofs.Common.{◌+◌, ◌-◌, ◌++◌, ◌∷◌, [], ℕ, List, take, set, ap, ◌∙◌, append_assoc, arith}
use Rattle.std.proofs.lemmas.List.{length-set, take_more_set}
use Rattle.std.proofs.lemmas.Slice.{take-put_mid}
use borrow.Rule.Slice.PartMut.{put_mid}
use Rattle.s2_bbframe.proofs.bodies.put_packet.Goals as goal

pub returns-clause-packet : goal.returns-clause-packet
returns-clause-packet c =
    let packets : List ℕ = c.args.packets.now in
    let at : ℕ = c.args.at in
    let body : List ℕ = c.args.body.now in
    let begun : List ℕ = set packets at 71 in
    ap (λ part. take (at + 188) (put_mid (at + 1) (at + 188 - (at + 1)) begun part)) c.copy_from_slice.ensures.after
    ∙ take-put_mid (at + 1) (at + 188 - (at + 1)) begun body (at + 188) (omega arith) (omega (arith, length-set packets at 71))
    ∙ ap (λ l. l ++ body) (take_more_set packets at 71 (omega arith)) ∙ append_assoc (take at packets) (71 ∷ []) body
