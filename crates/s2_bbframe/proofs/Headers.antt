-- What is written is accepted as the header that was written.
use Rattle.std.proofs.Common.{◌≡◌, ℕ, ◌+◌, ◌%◌, ◌^◌, ◌≤◌, ◌<◌, true, false, List, refl, ap, ◌∙◌, arith, Ok, Err}
use Rattle.s2_mode.specs.Mode.{Mode}
use Rattle.s2_bbframe.specs.declared.header.Header.{Header}
use Rattle.s2_bbframe.specs.declared.header.HeaderFault.TheVariants as faults
use Rattle.std.proofs.lemmas.Bool.{eq-eqb}
use Rattle.std.proofs.lemmas.Nat.{from_be_bytes-to_be_bytes_2}
use Rattle.s2_bbframe.proofs.Finite.{at_number}
use Rattle.s2_bbframe.specs.Headers.{two_bytes, is_whole, is_constant_transport, is_packet_stream, header_of, has_valid_lengths, header_of_bytes, header_bytes}

-- ---- reading, by its tests in their order

pub header_of_bytes-bad_crc : (m : Mode) (bytes : List ℕ) → is_whole bytes ≡ false → header_of_bytes m bytes ≡ Err faults.BadCrc
unfolding header_of_bytes
header_of_bytes-bad_crc m bytes whole = rw whole

pub header_of_bytes-other : (m : Mode) (bytes : List ℕ) → is_whole bytes ≡ true → is_packet_stream bytes ≡ false → header_of_bytes m bytes ≡ Err faults.OtherStream
unfolding header_of_bytes
header_of_bytes-other m bytes whole ours = rw (whole, ours)

pub header_of_bytes-bad_lengths : (m : Mode) (bytes : List ℕ) → is_whole bytes ≡ true → is_packet_stream bytes ≡ true → has_valid_lengths m (header_of bytes) ≡ false → header_of_bytes m bytes ≡ Err faults.BadLengths
unfolding header_of_bytes
header_of_bytes-bad_lengths m bytes whole ours valid = rw (whole, ours, valid)

pub header_of_bytes-accepted : (m : Mode) (bytes : List ℕ) → is_whole bytes ≡ true → is_packet_stream bytes ≡ true → has_valid_lengths m (header_of bytes) ≡ true → header_of_bytes m bytes ≡ Ok (header_of bytes)
unfolding header_of_bytes
header_of_bytes-accepted m bytes whole ours valid = rw (whole, ours, valid)

-- ---- writing

transport : (roll_off : ℕ) → roll_off ≤ 3 → is_constant_transport (240 + roll_off) ≡ true
transport roll_off ro = at_number (λ r. is_constant_transport (240 + r)) 4 roll_off refl (omega arith)

whole : (h : Header) → is_whole (header_bytes h) ≡ true
whole h = eq-eqb _ _ refl

packet_stream : (h : Header) → h.roll_off ≤ 3 → is_packet_stream (header_bytes h) ≡ true
packet_stream h ro = rw (transport h.roll_off ro)

abbrev made : ℕ → ℕ → ℕ → ℕ → Header
made roll_off second dfl syncd = record { roll_off = roll_off; second = second; dfl = dfl; syncd = syncd }

header_of-bytes : (h : Header) → h.roll_off ≤ 3 → h.dfl < 2 ^ 16 → h.syncd < 2 ^ 16 → header_of (header_bytes h) ≡ h
header_of-bytes h ro dfl syncd =
    let low : (240 + h.roll_off) % 4 ≡ h.roll_off = omega arith in
    ap (λ x. made x h.second (two_bytes (header_bytes h) 4) (two_bytes (header_bytes h) 7)) low
    ∙ ap (λ x. made h.roll_off h.second x (two_bytes (header_bytes h) 7)) (from_be_bytes-to_be_bytes_2 h.dfl dfl)
    ∙ ap (λ x. made h.roll_off h.second h.dfl x) (from_be_bytes-to_be_bytes_2 h.syncd syncd)

pub header_of_bytes-header_bytes : (m : Mode) (h : Header) → h.roll_off ≤ 3 → h.dfl < 2 ^ 16 → h.syncd < 2 ^ 16 → has_valid_lengths m h ≡ true → header_of_bytes m (header_bytes h) ≡ Ok h
header_of_bytes-header_bytes m h ro dfl syncd valid =
    let is = header_of-bytes h ro dfl syncd in
    header_of_bytes-accepted m (header_bytes h) (whole h) (packet_stream h ro) (ap (has_valid_lengths m) is ∙ valid) ∙ ap (λ x. Ok x) is
