-- The sizes of BBFRAMEs.
use Rattle.std.proofs.Common.{◌≡◌, ◌+◌, ◌*◌, ◌/◌, Bool, List, length, inl, inr, ap, ◌∙◌, arith}
use Rattle.std.proofs.lemmas.Bool.{cases_Bool, cond-true, cond-false, eqb-true, and_parts}
use Rattle.std.proofs.lemmas.List.{length-replicate}
use Rattle.std.proofs.lemmas.List.FromFn.{length-map-range_with_len}
use Rattle.s2_mode.specs.Mode.{Mode, IsMode, HasCodeSizes, kbch_of}
use Rattle.s2_mode.proofs.Modes.{code_sizes}
use Rattle.s2_bits.specs.Bits.{byte_at, bit_at, xor}
use Rattle.s2_certfile.specs.Field.{bytes_of_bits}
use Rattle.s2_certfile.proofs.EntryLemmas.{length-listed}
use Rattle.s2_scramble.specs.Baseband.{scrambled, scrambling_bit}
use Rattle.s2_records.specs.Laws.{WholeLaw}
use Rattle.s2_records.specs.Records.{has_bbframe, message_bytes, no_bbframe}

length-no_bbframe : (m : Mode) → length (no_bbframe m) ≡ kbch_of m / 8
length-no_bbframe m = length-replicate (kbch_of m / 8) 0

-- those of a message of Kbch bits
length-message : (m : Mode) (bits : List Bool) → IsMode m → length bits ≡ kbch_of m → length (bytes_of_bits (scrambled bits)) ≡ kbch_of m / 8
length-message m bits is long =
    let sizes : HasCodeSizes m = code_sizes m is in
    let same : length (scrambled bits) ≡ length bits = length-map-range_with_len (λ i. xor (bit_at bits i) (scrambling_bit i)) 0 (length bits) in
    let bytes = length-listed (λ k. byte_at (scrambled bits) (8 * k)) ((length (scrambled bits) + 7) / 8) in
    let size : (length (scrambled bits) + 7) / 8 ≡ kbch_of m / 8 = omega (arith, same, long, sizes.field) in
    bytes ∙ size

pub whole_lem : WholeLaw
whole_lem m decision is =
    let frame : length (message_bytes m decision) ≡ kbch_of m / 8 = elim (cases_Bool (has_bbframe m decision)) [
      | inl has ↦ (
          let long : length decision.message ≡ kbch_of m = eqb-true _ _ (and_parts _ _ has).1 in
          ap length (cond-true _ _ _ has) ∙ length-message m decision.message is long
          )
      | inr lost ↦ ap length (cond-false _ _ _ lost) ∙ length-no_bbframe m
    ] in
    (frame, length-no_bbframe m)
