-- What BCH decoding leaves, and what is read of its message.
use Rattle.std.proofs.Common.{◌≡◌, ℕ, ◌*◌, ◌+◌, ◌-◌, ◌/◌, ◌≤◌, Bool, true, false, List, length, take, Option, Some, None, IfSome, IfNone, Ok, refl, sym, ap, subst, ◌∙◌, arith, length-take, ext_get_or, get_or-take}
use Rattle.std.proofs.lemmas.Bool.{and_parts}
use Rattle.std.proofs.Common.{leb-true}
use Rattle.s2_mode.specs.Mode.{Mode, HasCodeSizes, k_of, kbch_of}
use Rattle.s2_bits.specs.Bits.{Rewritten, bit_at, differences}
use Rattle.s2_bbframe.specs.DataStream.{field_bytes}
use Rattle.s2_bbframe.specs.Headers.{has_valid_lengths, header_of, header_of_bytes, is_packet_stream, is_whole}
use Rattle.s2_bbframe.specs.declared.header.Header.{Header}
use Rattle.s2_bbframe.proofs.Headers.{header_of_bytes-accepted, header_of_bytes-bad_crc, header_of_bytes-bad_lengths, header_of_bytes-other}
use Rattle.s2_scramble.specs.Baseband.{scrambled}
use Rattle.s2_bch.specs.Codes.{IsWithin}
use Rattle.s2_bch.specs.Decoding.{nearest}
use Rattle.s2_message.specs.Decisions.{message_of, received_word}
use Rattle.s2_message.specs.Reading.{FindsWord}

-- a list over which the first bits of another were written, as many as it has
prefix_is : (n : ℕ) (bits old now : List Bool) → Rewritten false n (bit_at bits) old now → length old ≡ n → n ≤ length bits → now ≡ take n bits
prefix_is n bits old now r long fits =
    let all : length now ≡ n = r.long ∙ long in
    let part : length (take n bits) ≡ n = omega (arith, length-take n bits) in
    ext_get_or false now (take n bits) (all ∙ sym part) (λ i low. r.done i (omega arith) ∙ sym (get_or-take n bits i false (omega arith)))

-- what the decoder answers, and how many bits it leaves
found_is : (m : Mode) (received word : List Bool) (found : Option ℕ) → length received ≡ k_of m
    → IfSome found (λ c. IsWithin m received word × (c ≡ differences (length received) received word)) → IfSome found (λ c. nearest m received ≡ Some word)
    → IfNone found (nearest m received ≡ None) → IfNone found (word ≡ received) → FindsWord m received word found × (length word ≡ k_of m)
found_is m received word (Some c) long some near none same = ((near, some.1 ∙ ap (λ n. differences n received word) long), some.0.word.size)
found_is m received word None long some near none same = ((none, same), ap length same ∙ long)

-- of the first bits of others
pub finds_word : (m b : Mode) (n : ℕ) (bits old received word : List Bool) (found : Option ℕ) → b ≡ m → n ≡ k_of m → k_of m ≤ length bits → length old ≡ k_of m → Rewritten false n (bit_at bits) old received
    → IfSome found (λ c. IsWithin b received word × (c ≡ differences (length received) received word)) → IfSome found (λ c. nearest b received ≡ Some word)
    → IfNone found (nearest b received ≡ None) → IfNone found (word ≡ received) → FindsWord m (received_word m bits) word found × (length word ≡ k_of m)
finds_word m b n bits old received word found code size room long written some near none same =
    let is : received ≡ received_word m bits = prefix_is n bits old received written (long ∙ sym size) (omega (arith, size, room)) ∙ ap (λ k. take k bits) size in
    let both = found_is b received word found (written.long ∙ long ∙ ap k_of (sym code)) some near none same in
    (subst (λ r. FindsWord m r word found) is (subst (λ x. FindsWord x received word found) code both.0), both.1 ∙ ap k_of code)

-- a header that is accepted has lengths of the mode
by_tests : (m : Mode) (bytes : List ℕ) (h : Header) (whole ours valid : Bool) → is_whole bytes ≡ whole → is_packet_stream bytes ≡ ours → has_valid_lengths m (header_of bytes) ≡ valid
    → header_of_bytes m bytes ≡ Ok h → has_valid_lengths m h ≡ true
by_tests m bytes h false ours valid a b c ok = let bad = header_of_bytes-bad_crc m bytes a in cc
by_tests m bytes h true false valid a b c ok = let bad = header_of_bytes-other m bytes a b in cc
by_tests m bytes h true true false a b c ok = let bad = header_of_bytes-bad_lengths m bytes a b c in cc
by_tests m bytes h true true true a b c ok = let is = header_of_bytes-accepted m bytes a b c in let same : header_of bytes ≡ h = cc in subst (λ x. has_valid_lengths m x ≡ true) same c

pub accepted_valid : (m : Mode) (bytes : List ℕ) (h : Header) → header_of_bytes m bytes ≡ Ok h → has_valid_lengths m h ≡ true
accepted_valid m bytes h ok = by_tests m bytes h (is_whole bytes) (is_packet_stream bytes) (has_valid_lengths m (header_of bytes)) refl refl refl ok

pub message_fits : (m : Mode) → HasCodeSizes m → kbch_of m ≤ k_of m
message_fits m sizes = grind (arith, sizes.short_code, sizes.normal_code)

-- the baseband frame that is read
pub frame_read : (m : Mode) (word old copied frame : List Bool) (n : ℕ) → n ≡ kbch_of m → HasCodeSizes m → length word ≡ k_of m → length old ≡ kbch_of m
    → Rewritten false n (bit_at word) old copied → frame ≡ scrambled copied → frame ≡ scrambled (message_of m word)
frame_read m word old copied frame n size sizes long room written is =
    let fits = message_fits m sizes in
    is ∙ ap scrambled (prefix_is n word old copied written (room ∙ sym size) (omega (arith, size, long, fits)) ∙ ap (λ k. take k word) size)

-- the data field's bytes lie in the frame and have room in a field
pub field_fits : (m : Mode) (h : Header) (n : ℕ) → HasCodeSizes m → has_valid_lengths m h ≡ true → n ≡ h.dfl / 8 → (8 * (10 + n) ≤ kbch_of m) × (n ≤ field_bytes m)
field_fits m h n sizes valid is =
    let short : h.dfl ≤ kbch_of m - 80 = leb-true h.dfl (kbch_of m - 80) (and_parts _ _ (and_parts _ _ valid).1).0 in
    let whole = sizes.field in
    (omega (arith, is, short, whole), omega (arith, is, short, whole))
