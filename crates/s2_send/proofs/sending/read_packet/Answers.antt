use Rattle.std.proofs.Common.{◌≡◌, ◌<◌, Err, length, take, length-take-le, sym, subst, arith, rules}
use Rattle.std.specs.Io.KnownBytes.{IsAtEnd}
use Rattle.s2_send.specs.Running.{ReadsNext}
use Rattle.s2_send.proofs.ReadSteps.{reads_packet, reads_refused, reads_cut}
use Rattle.s2_send.proofs.sending.read_packet.Goals as goal

pub returns-clause-reads : goal.returns-clause-reads
returns-clause-reads g c =
    let buffer = c.read_full.new.buf in
    let n = c.in-Ok.n in
    let size : length buffer ≡ 188 = search rules in
    let long : length (take n buffer) ≡ n = length-take-le n buffer c.in-Ok.ensures.bound in
    reads_packet c.args.sender.now c.put.new.self (g.R.CountedRead.remaining c.args.reader.now) (g.R.CountedRead.remaining c.read_full.new.reader) (take n buffer) c.in-Ok.ensures.bytes
    c.requires.held c.requires.open c.requires.not_ready (omega (arith, long, size, c.in-Ok.ensures.bound)) c.requires.within c.put.ensures.stops
    c.in_ok-_taken._taken c.in_ok-_taken.ensures.puts (omega (arith, long, size, c.in-Ok.ensures.bound, c.if-n-lt-PACKET_BYTES.false))

pub returns-in_err-_taken-clause-reads : goal.returns-in_err-_taken-clause-reads
returns-in_err-_taken-clause-reads g c =
    let buffer = c.read_full.new.buf in
    let n = c.in-Ok.n in
    let r' = g.R.CountedRead.remaining c.read_full.new.reader in
    let size : length buffer ≡ 188 = search rules in
    let long : length (take n buffer) ≡ n = length-take-le n buffer c.in-Ok.ensures.bound in
    let end : length (take n buffer) < 188 → IsAtEnd r' = λ short. c.in-Ok.ensures.end (omega (arith, long, size, short)) in
    let fault = c.in_err-_taken.field-0.0 in
    let told : c.from_residual.result ≡ Err fault = search rules in
    subst (ReadsNext c.args.sender.now c.put.new.self (g.R.CountedRead.remaining c.args.reader.now) r') (sym told)
    (reads_refused c.args.sender.now c.put.new.self (g.R.CountedRead.remaining c.args.reader.now) r' (take n buffer) c.in-Ok.ensures.bytes
    c.requires.held c.requires.open c.requires.not_ready (omega (arith, long, size, c.in-Ok.ensures.bound)) c.requires.within c.put.ensures.stops fault c.in_err-_taken.ensures.puts end).0

pub returns-in_err-close-clause-reads : goal.returns-in_err-close-clause-reads
returns-in_err-close-clause-reads g c =
    let buffer = c.read_full.new.buf in
    let n = c.in-Ok.n in
    let r' = g.R.CountedRead.remaining c.read_full.new.reader in
    let size : length buffer ≡ 188 = search rules in
    let long : length (take n buffer) ≡ n = length-take-le n buffer c.in-Ok.ensures.bound in
    let short : n < 188 = c.if-n-lt-PACKET_BYTES.true in
    let fault = c.in_err-close.field-0.0 in
    let told : c.from_residual-in_err-close.result ≡ Err fault = search rules in
    subst (ReadsNext c.args.sender.now c.close.new.self (g.R.CountedRead.remaining c.args.reader.now) r') (sym told)
    (reads_cut c.args.sender.now c.put.new.self (g.R.CountedRead.remaining c.args.reader.now) r' (take n buffer) c.in-Ok.ensures.bytes
    c.requires.held c.requires.open c.requires.not_ready (omega (arith, long, size, c.in-Ok.ensures.bound)) c.requires.within c.put.ensures.stops
    c.in_ok-_taken._taken c.in_ok-_taken.ensures.puts (omega (arith, long, short)) (c.in-Ok.ensures.end (omega (arith, size, short))) c.close.new.self c.close.ensures.same fault c.in_err-close.ensures.closes).0
