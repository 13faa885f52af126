use Rattle.std.proofs.Common.{◌≡◌, ◌+◌, ◌-◌, ◌<◌, ◌∙◌, ap, sym, length, inl, inr, arith, pos}
use Rattle.std.proofs.lemmas.Bool.{cases_lt}
use Rattle.std.proofs.lemmas.List.{get_or_append_left, get_or-append_right, get_or-replicate}
use Rattle.s2_mode.specs.Symbols.{symbol}
use Rattle.s2_scramble.specs.Gold.{quarter_turns}
use Rattle.s2_scramble.specs.Rotations.{rotated}
use Rattle.s2_plframe.specs.Frame.{pilot}
use Rattle.s2_plframe.proofs.Blocks.{spaced_front, spaced_back}
use Rattle.s2_plframe.proofs.send.frame.write_block.Goals as goal

pub returns : goal.returns
returns c =
    let at = c.args.at in
    let none = symbol (pos 0) (pos 0) in
    let front = c.turn_into.new.out in
    let back = c.turn_into-2.new.out in
    let long : length front ≡ 1440 = c.turn_into.auto.out ∙ (omega (arith, c.split_at_mut-front.ensures.front_len)) in
    λ k lt. elim (cases_lt k 1440) [
      | inl slots ↦
          get_or_append_left front back none k (omega arith)
          ∙ (c.turn_into.ensures k (omega arith)
          ∙ ap (rotated (quarter_turns c.args.gold.now (at + k))) (sym (spaced_front c.args.slots.now k slots)))
      | inr pilots ↦
          let small : k - 1440 < 36 = omega arith in
          let same : at + 1440 + (k - 1440) ≡ at + k = omega arith in
          get_or-append_right front back 1440 k none long pilots
          ∙ (c.turn_into-2.ensures (k - 1440) small
          ∙ (λ t. rotated (quarter_turns c.args.gold.now (same t)) ((get_or-replicate 36 (k - 1440) pilot none small ∙ sym (spaced_back c.args.slots.now k pilots lt)) t)))
    ]
