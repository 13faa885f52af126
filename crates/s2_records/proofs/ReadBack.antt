-- What a frame delivered is read from its BBFRAME.
use Rattle.std.proofs.Common.{◌≡◌, ℕ, ◌+◌, ◌-◌, ◌*◌, ◌/◌, ◌<◌, ◌≤◌, ◌==◌, ◌&&◌, if◌then◌else◌, Bool, List, map, length, take, drop, Option, Some, None, Ok, refl, sym, ap, ◌∙◌, arith}
use Rattle.std.specs.Option.{is_some}
use Rattle.std.proofs.lemmas.Bool.{cond-true, and_parts, leb-true, eq-eqb}
use Rattle.std.proofs.lemmas.List.{same_lists, length-drop, length-take-le, get_or-take, get_or-drop}
use Rattle.std.proofs.lemmas.List.FromFn.{get_or-map-range_with_len, length-map-range_with_len}
use Rattle.s2_mode.specs.Mode.{Mode, IsMode, HasCodeSizes, kbch_of}
use Rattle.s2_mode.proofs.Modes.{code_sizes}
use Rattle.s2_bits.specs.Bits.{bit_at, byte_at, bytes_from, xor}
use Rattle.s2_bbframe.specs.Headers.{header_of_bytes}
use Rattle.s2_bbframe.specs.Joining.{gap}
use Rattle.s2_bbframe.specs.declared.header.Header.{Header}
use Rattle.s2_certfile.specs.Field.{places, bytes_of_bits}
use Rattle.s2_certfile.proofs.EntryLemmas.{length-listed}
use Rattle.s2_scramble.specs.Baseband.{scrambled, scrambling_bit}
use Rattle.s2_receive.specs.Decider.{IsSaidBy}
use Rattle.s2_receive.specs.Receiving.{delivery}
use Rattle.s2_records.specs.Frames.{delivered_by, delivered_in}
use Rattle.s2_records.proofs.FrameLemmas.{accepted_valid, zeros_are_a_gap}
use Rattle.s2_records.specs.Laws.{ReadBackLaw}
use Rattle.s2_records.specs.Records.{no_bbframe}

-- ---- pieces of the bytes of bits

piece_is : (f : ℕ → ℕ) (n first count : ℕ) → first + count ≤ n → take count (drop first (map f (places n))) ≡ map (λ i. f (first + i)) (places count)
piece_is f n first count room =
    let all : List ℕ = map f (places n) in
    let left : length (drop first all) ≡ n - first = length-drop first all ∙ ap (λ k. k - first) (length-listed f n) in
    let long : length (take count (drop first all)) ≡ count = length-take-le count (drop first all) (omega (arith, left)) in
    same_lists (take count (drop first all)) (map (λ i. f (first + i)) (places count)) (long ∙ sym (length-listed (λ i. f (first + i)) count)) (λ k d low. (
    let short : k < count = omega (arith, long) in
    get_or-take count (drop first all) k d short ∙ get_or-drop first all k d ∙ get_or-map-range_with_len f 0 n (first + k) (first + k) d (omega arith) (omega arith) ∙ sym (get_or-map-range_with_len (λ i. f (first + i)) 0 count k k d short (omega arith))
    ))

bytes_piece : (bits : List Bool) (first count : ℕ) → first + count ≤ (length bits + 7) / 8 → take count (drop first (bytes_of_bits bits)) ≡ bytes_from first count bits
bytes_piece bits first count room = piece_is (λ k. byte_at bits (8 * k)) ((length bits + 7) / 8) first count room

-- ---- headers

-- an accepted header's data field is within the frame
field_fits : (m : Mode) (bytes : List ℕ) (h : Header) → IsMode m → header_of_bytes m bytes ≡ Ok h → 10 + h.dfl / 8 ≤ kbch_of m / 8
field_fits m bytes h is ok =
    let sizes : HasCodeSizes m = code_sizes m is in
    let valid = accepted_valid m bytes h ok in
    let few : h.dfl ≤ kbch_of m - 80 = leb-true h.dfl (kbch_of m - 80) (and_parts _ _ (and_parts _ _ valid).1).0 in
    omega (arith, few, sizes.field)

-- zeros are a gap for the joiner, so they deliver nothing
nothing_in : (delivered : Option (Header × List ℕ)) → delivery delivered ≡ gap → delivered ≡ None
nothing_in None is = refl
nothing_in (Some pair) is = cc

-- ---- records

read_by : (m : Mode) (message : List Bool) (delivered : Option (Header × List ℕ)) → IsMode m → IsSaidBy m message delivered
    → delivered_in m (if is_some delivered && (length message == kbch_of m) then bytes_of_bits (scrambled message) else no_bbframe m) ≡ delivered
read_by m message None is said = nothing_in (delivered_in m (no_bbframe m)) (zeros_are_a_gap m (kbch_of m / 8))
read_by m message (Some (h, bytes)) is (long, read, field) =
    let sizes : HasCodeSizes m = code_sizes m is in
    let bits : List Bool = scrambled message in
    let record_is = cond-true (length message == kbch_of m) (bytes_of_bits bits) (no_bbframe m) (eq-eqb _ _ long) in
    let same : length bits ≡ length message = length-map-range_with_len (λ i. xor (bit_at message i) (scrambling_bit i)) 0 (length message) in
    let fits = field_fits m (bytes_from 0 10 bits) h is read in
    let size : (length bits + 7) / 8 ≡ kbch_of m / 8 = omega (arith, same, long, sizes.field) in
    let front : take 10 (bytes_of_bits bits) ≡ bytes_from 0 10 bits = bytes_piece bits 0 10 (omega (arith, size, fits)) in
    let rest : take (h.dfl / 8) (drop 10 (bytes_of_bits bits)) ≡ bytes_from 10 (h.dfl / 8) bits = bytes_piece bits 10 (h.dfl / 8) (omega (arith, size, fits)) in
    ap (delivered_in m) record_is ∙ ap (delivered_by (bytes_of_bits bits)) (ap (header_of_bytes m) front ∙ read) ∙ ap (λ f. Some (h, f)) (rest ∙ sym field)

pub read_back_lem : ReadBackLaw
read_back_lem m decision is said = read_by m decision.message decision.delivered is said
