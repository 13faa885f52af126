use Rattle.s2_bits.proofs.Nibbles.{spelt-bits}
use Rattle.s2_bits.proofs.spelling.byte_bits.Goals as goal

pub returns : goal.returns
returns c = rw (c.from.ensures, c.from-2.ensures) (spelt-bits c.args.byte c.ranges.byte.fits)
