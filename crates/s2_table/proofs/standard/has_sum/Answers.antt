use Rattle.std.proofs.Common.{rules, sym}
use Rattle.s2_table.proofs.standard.has_sum.Goals as goal

-- 64 digits are those of 32 bytes
pub unwrap-requires : goal.unwrap-requires
unwrap-requires c = c.encode_to_slice.ensures.fits.1 (search rules)

pub returns : goal.returns
returns c =
    let made = c.digest_of-digest.ensures in
    (made.0, made.1, rw (sym made.2) (search rules))
