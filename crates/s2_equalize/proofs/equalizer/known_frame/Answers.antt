use Rattle.std.proofs.Common.{◌≡◌, ◌*◌, length, drop, ap₂, ◌∙◌, arith}
use Rattle.std.proofs.lemmas.List.{take_at}
use Rattle.s2_plframe.specs.Frame.{frame_symbols}
use Rattle.s2_equalize.proofs.Payloadless.{origins_known}
use Rattle.s2_equalize.proofs.equalizer.known_frame.Goals as goal

pub returns : goal.returns
returns c =
    let m = c.args.mode in
    let new = c.frame_into.new.frame in
    let long : length new ≡ c.in_ok-known.known.len = omega arith in
    take_at new (drop (length new) c.in_ok-known.known.items) c.in_ok-known.known.len long
    ∙ (c.frame_into.ensures ∙ (ap₂ (frame_symbols m) c.in_ok-gold.ensures (c.deref.ensures.value ∙ c.in_ok-payload.ensures.items_if_clones_equal (λ y same. same)) ∙ origins_known m c.args.number (90 * c.slots.result)))
