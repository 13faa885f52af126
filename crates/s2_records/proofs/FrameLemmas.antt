-- Headers that are accepted, and frames of zeros.
use Rattle.std.proofs.Common.{◌≡◌, ℕ, zero, suc, Bool, true, false, List, Result, Ok, Err, IfOk, ◌&&◌, refl, sym, ap, subst}
use Rattle.std.specs.Prelude.{slice_index, replicate, take, ◌==◌}
use Rattle.s2_mode.specs.Mode.{Mode}
use Rattle.s2_bbframe.specs.Headers.{two_bytes, is_whole, is_constant_transport, is_packet_stream, header_of, has_valid_lengths, header_of_bytes}
use Rattle.s2_bbframe.specs.Joining.{gap}
use Rattle.s2_bbframe.specs.Limits.{packet_bits, sync}
use Rattle.s2_bbframe.specs.declared.header.Header.{Header}
use Rattle.s2_bbframe.specs.declared.header.HeaderFault.{HeaderFault}
use Rattle.s2_bbframe.proofs.Headers.{header_of_bytes-bad_crc, header_of_bytes-other, header_of_bytes-bad_lengths, header_of_bytes-accepted}
use Rattle.s2_receive.specs.Receiving.{delivery}
use Rattle.s2_records.specs.Frames.{delivered_by, event_of}

-- a header that is accepted has lengths of the mode
by_tests : (m : Mode) (bytes : List ℕ) (h : Header) (whole ours valid : Bool) → is_whole bytes ≡ whole → is_packet_stream bytes ≡ ours → has_valid_lengths m (header_of bytes) ≡ valid
    → header_of_bytes m bytes ≡ Ok h → has_valid_lengths m h ≡ true
by_tests m bytes h false ours valid a b c ok = let bad = header_of_bytes-bad_crc m bytes a in cc
by_tests m bytes h true false valid a b c ok = let bad = header_of_bytes-other m bytes a b in cc
by_tests m bytes h true true false a b c ok = let bad = header_of_bytes-bad_lengths m bytes a b c in cc
by_tests m bytes h true true true a b c ok = let is = header_of_bytes-accepted m bytes a b c in let same : header_of bytes ≡ h = cc in subst (λ x. has_valid_lengths m x ≡ true) same c

pub accepted_valid : (m : Mode) (bytes : List ℕ) (h : Header) → header_of_bytes m bytes ≡ Ok h → has_valid_lengths m h ≡ true
accepted_valid m bytes h ok = by_tests m bytes h (is_whole bytes) (is_packet_stream bytes) (has_valid_lengths m (header_of bytes)) refl refl refl ok

pub accepted_lengths : (m : Mode) (bytes : List ℕ) (read : Result Header HeaderFault) → read ≡ header_of_bytes m bytes → IfOk read (λ h. has_valid_lengths m h ≡ true)
accepted_lengths m bytes (Ok h) is = accepted_valid m bytes h (sym is)
accepted_lengths m bytes (Err fault) is = tt

-- a header that begins with 0 is refused, whether or not its CRC-8 is right
begins_with_zero : (m : Mode) (frame bytes : List ℕ) (whole : Bool) → is_whole bytes ≡ whole → slice_index bytes 0 ≡ 0 → delivery (delivered_by frame (header_of_bytes m bytes)) ≡ gap
begins_with_zero m frame bytes false a first = ap (λ h. delivery (delivered_by frame h)) (header_of_bytes-bad_crc m bytes a)
begins_with_zero m frame bytes true a first =
    let other : is_packet_stream bytes ≡ false = ap (λ b. is_constant_transport b && ((two_bytes bytes 2 == packet_bits) && (slice_index bytes 6 == sync))) first in
    ap (λ h. delivery (delivered_by frame h)) (header_of_bytes-other m bytes a other)

first_of_zeros : (n : ℕ) → slice_index (take 10 (replicate n 0)) 0 ≡ 0
first_of_zeros zero = refl
first_of_zeros (suc n) = refl

pub zeros_are_a_gap : (m : Mode) (n : ℕ) → event_of m (replicate n 0) ≡ gap
zeros_are_a_gap m n = begins_with_zero m (replicate n 0) (take 10 (replicate n 0)) (is_whole (take 10 (replicate n 0))) refl (first_of_zeros n)
