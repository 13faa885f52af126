-- Packets of bytes make data fields of bytes.
use Rattle.s2_modem.proofs.Names.{◌≡◌, ◌+◌, ◌<◌, ◌≤◌, ℕ, zero, suc, List, [], ◌∷◌, ◌++◌, All, length, take, drop, refl, sym, ap, subst, take_at, length-take, arith, drop_at, All-nil, All-cons, All-append, All-push, All-take, All-drop, flat_map, ⊤, crc8, IsPacket, closed_body, stream_of, cuts, fields_of, to_place, Placed, placed_fields, placed_front, divided, joined, IsByte, AreBytes}

-- a data field of bytes that begins at this byte of the stream, holds a sync place, and is not too long
abbrev pub IsField : ℕ → ℕ → List ℕ → Type 0
IsField size at field = AreBytes field × (to_place at < length field) × (length field ≤ size)

-- and so are consecutive ones
abbrev pub AreFields : ℕ → ℕ → List (List ℕ) → Type 0
AreFields size at [] = ⊤
AreFields size at (field ∷ fields) = IsField size at field × AreFields size (at + length field) fields

bodies_bytes : (packets : List (List ℕ)) → AreBytes (joined packets) → AreBytes (flat_map closed_body packets)
bodies_bytes [] h = All-nil IsByte
bodies_bytes (p ∷ ps) h =
    let first : AreBytes p = subst AreBytes (take_at p (joined ps) (length p) refl) (All-take IsByte (length p) (p ++ joined ps) h) in
    let later : AreBytes (joined ps) = subst AreBytes (drop_at p (joined ps) (length p) refl) (All-drop IsByte (length p) (p ++ joined ps) h) in
    All-append IsByte (closed_body p) (flat_map closed_body ps) (All-push IsByte (drop 1 p) (crc8 (drop 1 p)) (All-drop IsByte 1 p first) (divided (drop 1 p)).0) (bodies_bytes ps later)

stream_bytes : (packets : List (List ℕ)) → AreBytes (joined packets) → AreBytes (stream_of packets)
stream_bytes [] h = All-nil IsByte
stream_bytes (p ∷ ps) h = All-cons IsByte 0 (flat_map closed_body (p ∷ ps)) (omega arith) (bodies_bytes (p ∷ ps) h)

-- the first cuts of a stream of bytes
front_cuts : (size n at : ℕ) (stream : List ℕ) (fields later : List (List ℕ)) → AreBytes stream → Placed at fields → fields ++ later ≡ cuts size n stream → AreFields size at fields
front_cuts size n at stream [] later bytes placed are = tt
front_cuts size zero at stream (f ∷ fs) later bytes placed are = cc
front_cuts size (suc n) at stream (f ∷ fs) later bytes placed are =
    let first : take size stream ≡ f = cc in
    let long : length f ≤ size = omega (arith, ap length first, length-take size stream) in
    ((subst AreBytes first (All-take IsByte size stream bytes), placed.0, long), front_cuts size n (at + length f) (drop size stream) fs later (All-drop IsByte size stream bytes) placed.1 cc)

-- the first fields of packets
pub front_fields : (size : ℕ) (packets fields later : List (List ℕ)) → 188 ≤ size → All IsPacket packets → AreBytes (joined packets) → fields ++ later ≡ fields_of size (stream_of packets) → AreFields size 0 fields
front_fields size packets fields later room each bytes are =
    front_cuts size _ 0 (stream_of packets) fields later (stream_bytes packets bytes) (placed_front fields later 0 (subst (Placed 0) (sym are) (placed_fields size room packets each))) are
