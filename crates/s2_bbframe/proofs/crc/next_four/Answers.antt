use Rattle.std.proofs.Common.{◌≡◌, ◌<◌, ◌∙◌, ap, sym, arith, get_or, List, ℕ}
use Rattle.std.specs.List.{flat_map}
use Rattle.std.specs.Prelude.{bit_xor}
use Rattle.std.proofs.lemmas.Nat.{xor_of_8}
use Rattle.s2_bits.specs.Bits.{bits_of_byte}
use Rattle.s2_bbframe.specs.Crc.{remainder}
use Rattle.s2_bbframe.proofs.Remainders.{times, remainder-four, four, sums}
use Rattle.s2_bbframe.proofs.Tables.{by_8-times, by_16-times, by_24-times, by_32-times}
use Rattle.s2_bbframe.proofs.crc.next_four.Goals as goal

pub returns : goal.returns
returns c =
    let bytes : List ℕ = c.args.bytes.now in
    let a : ℕ = get_or bytes 0 0 in
    let b : ℕ = get_or bytes 1 0 in
    let d : ℕ = get_or bytes 2 0 in
    let e : ℕ = get_or bytes 3 0 in
    let fits_a : a < 256 = (c.type_inv.bytes 0).fits in
    let fits_b : b < 256 = (c.type_inv.bytes 1).fits in
    let fits_d : d < 256 = (c.type_inv.bytes 2).fits in
    let fits_e : e < 256 = (c.type_inv.bytes 3).fits in
    let fits_s : bit_xor c.args.crc a < 256 = xor_of_8 c.args.crc a c.ranges.crc.fits fits_a in
    let is_s : c.from.result ≡ bit_xor c.args.crc a = c.from.ensures in
    let is_b : c.from-2.result ≡ b = c.from-2.ensures in
    let is_d : c.from-3.result ≡ d = c.from-3.ensures in
    let is_e : c.from-4.result ≡ e = c.from-4.ensures in
    sums _ _ _ _ _ _ _ _
    (by_32-times c.from.result (omega arith) ∙ ap (times 32) is_s)
    (by_24-times c.from-2.result (omega arith) ∙ ap (times 24) is_b)
    (by_16-times c.from-3.result (omega arith) ∙ ap (times 16) is_d)
    (by_8-times c.from-4.result (omega arith) ∙ ap (times 8) is_e)
    ∙ remainder-four c.args.crc a b d e c.ranges.crc.fits fits_a fits_b fits_d fits_e
    ∙ ap (λ list. remainder c.args.crc (flat_map bits_of_byte list)) (sym (four bytes c.requires))
