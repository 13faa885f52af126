use Rattle.std.proofs.Common.{◌≡◌, ◌<◌, ◌∙◌, ap, sym, arith}
use Rattle.std.specs.Prelude.{bit_xor}
use Rattle.std.proofs.lemmas.Nat.{xor_of_8}
use Rattle.s2_bbframe.proofs.Remainders.{times, next_byte, next_byte-times}
use Rattle.s2_bbframe.proofs.Tables.{by_8-times}
use Rattle.s2_bbframe.proofs.crc.next_byte.Goals as goal

pub returns : goal.returns
unfolding next_byte
returns c =
    let is : c.from.result ≡ bit_xor c.args.crc c.args.byte = c.from.ensures in
    let fits : bit_xor c.args.crc c.args.byte < 256 = xor_of_8 c.args.crc c.args.byte c.ranges.crc.fits c.ranges.byte.fits in
    by_8-times c.from.result (omega arith) ∙ ap (times 8) is ∙ sym (next_byte-times c.args.crc c.args.byte (omega arith))
