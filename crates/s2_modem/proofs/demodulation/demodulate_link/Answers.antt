use Rattle.s2_modem.proofs.HeadlineLemmas.{bytes_headline}
use Rattle.s2_modem.proofs.demodulation.demodulate_link.Goals as goal

pub returns-in-Ok-receive_bytes-clause-headline : goal.returns-in-Ok-receive_bytes-clause-headline
returns-in-Ok-receive_bytes-clause-headline g c =
    let made = c.in-Ok.ensures in
    bytes_headline _ _ _ c.receive_bytes.new.receiver.state _ _ _ made.rules made.keeps c.in-Ok-receive_bytes.ensures.receives
