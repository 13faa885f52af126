use Rattle.std.proofs.Common.{◌++◌, false, sym, ap, ◌∙◌}
use Rattle.s2_bbframe.specs.DataStream.{field_bytes}
use Rattle.s2_send.specs.Frames.{sent_behind}
use Rattle.s2_send.specs.Limits.{max_packets}
use Rattle.s2_send.proofs.SenderSteps.{first_past}
use Rattle.s2_send.proofs.sender.Sender.on_link.Goals as goal

pub returns-clause-past : goal.returns-clause-past
returns-clause-past c =
    let framer = c.in_ok-framer.framer in
    first_past (record { link = framer.link; dummy_every = 0; stream = c.in_ok-intake.intake; codeword = framer.codeword; unit = framer.bytes ++ sent_behind framer.link false })
    (field_bytes c.mode-2.result) max_packets c.in_ok-intake.ensures (ap field_bytes c.mode-2.ensures.is ∙ ap (λ l. field_bytes l.setup.mode) (sym c.in_ok-framer.ensures))
