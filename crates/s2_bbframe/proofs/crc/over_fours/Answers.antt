use Rattle.std.proofs.Common.{◌≡◌, ℕ, ◌+◌, ◌-◌, ◌*◌, ap, ◌∙◌, refl, sym, subst, arith, take, drop, List, []}
use Rattle.std.specs.List.{flat_map}
use Rattle.std.proofs.lemmas.List.{drop_all}
use Rattle.std.proofs.lemmas.Simd.{chunk-drop}
use Rattle.std.proofs.lemmas.Grind.{flat_map-append}
use Rattle.s2_bits.specs.Bits.{bits_of_byte}
use Rattle.s2_bbframe.specs.Crc.{remainder, crc8}
use Rattle.s2_bbframe.proofs.Remainders.{remainder-append}
use Rattle.s2_bbframe.proofs.crc.over_fours.Goals as goal

pub loop-f-init : goal.loop-f-init
unfolding crc8
loop-f-init c = refl

pub loop-f-preserved : goal.loop-f-preserved
loop-f-preserved c =
    let crc : ℕ = c.loop-f.crc in
    let at : ℕ = 4 * c.loop-f.f in
    let bytes : List ℕ = c.args.bytes.now in
    let piece : List ℕ = take 4 (drop at bytes) in
    let rest : List ℕ = drop (at + 4) bytes in
    let size : at + 4 - at ≡ 4 = omega arith in
    let is : c.next_four-crc.result ≡ remainder crc (flat_map bits_of_byte piece) =
    subst (λ k. c.next_four-crc.result ≡ remainder crc (flat_map bits_of_byte (take k (drop at bytes)))) size c.next_four-crc.ensures in
    let next : 4 * (c.loop-f.f + 1) ≡ at + 4 = omega arith in
    ap (λ place. remainder c.next_four-crc.result (flat_map bits_of_byte (drop place bytes))) next
    ∙ ap (λ r. remainder r (flat_map bits_of_byte rest)) is
    ∙ sym (remainder-append crc (flat_map bits_of_byte piece) (flat_map bits_of_byte rest))
    ∙ ap (remainder crc) (sym (flat_map-append bits_of_byte piece rest))
    ∙ ap (λ list. remainder crc (flat_map bits_of_byte list)) (sym (chunk-drop at 4 bytes))
    ∙ c.loop-f.invariant

pub returns : goal.returns
unfolding remainder
returns c =
    let none : drop (4 * c.loop-f.f) c.args.bytes.now ≡ [] = drop_all (4 * c.loop-f.f) c.args.bytes.now (omega (arith, c.requires)) in
    ap (λ bytes. remainder c.loop-f.crc (flat_map bits_of_byte bytes)) (sym none) ∙ c.loop-f.invariant
