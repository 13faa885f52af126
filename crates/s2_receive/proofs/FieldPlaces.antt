-- Fields of a stream of packets: in each lies a sync place.
use Rattle.s2_receive.proofs.Names.{◌≡◌, ℕ, zero, suc, ◌+◌, ◌-◌, ◌*◌, ◌/◌, ◌<◌, ◌≤◌, List, [], ◌∷◌, ◌++◌, All, length, take, drop, refl, sym, ap, ◌∙◌, subst, length-append, length-drop, length-take, take-append-drop, arith, div-mul-le_self, lt-div-mul-add, div_below, take_all, nil_from_length, All-head, All-tail, flat_map, IsPacket, closed_body, stream_of, cuts, fields_of, Placed, length_closed, joined, closed_in}

length_bodies : (ps : List (List ℕ)) → All IsPacket ps → length (flat_map closed_body ps) ≡ 188 * length ps
length_bodies [] h = refl
length_bodies (p ∷ ps) h = omega (arith, length-append (closed_body p) (flat_map closed_body ps), length_closed p (All-head IsPacket p ps h), length_bodies ps (All-tail IsPacket p ps h))

module _ (size : ℕ) (large : 188 ≤ size) where
  -- as many cuts as reach the stream's end
  reaches_end : (n : ℕ) (stream : List ℕ) → length stream ≤ n * size → joined (cuts size n stream) ≡ stream
  reaches_end zero stream h = sym (nil_from_length stream (omega arith))
  reaches_end (suc n) stream h =
      let more : suc n * size ≡ n * size + size = omega arith in
      let rest = drop size stream in
      ap (λ l. take size stream ++ l) (reaches_end n rest (omega (arith, more, length-drop size stream))) ∙ take-append-drop size stream

  -- each cut of a stream that ends at a place holds a place
  placed_cuts : (n at count : ℕ) (stream : List ℕ) → at + length stream ≡ 188 * count + 1 → n * size < length stream + size → Placed at (cuts size n stream)
  placed_cuts zero at count stream e h = tt
  placed_cuts (suc zero) at count stream e h = (omega (arith, length-take size stream), tt)
  placed_cuts (suc (suc n)) at count stream e h =
      let more : suc (suc n) * size ≡ suc n * size + size = omega arith in
      let again : suc n * size ≡ n * size + size = omega arith in
      let long = length-take size stream in
      let left = length-drop size stream in
      (omega (arith, long), placed_cuts (suc n) (at + length (take size stream)) count (drop size stream) (omega (arith, long, left)) (omega (arith, left)))

  pub placed_fields : (packets : List (List ℕ)) → All IsPacket packets → Placed 0 (fields_of size (stream_of packets))
  placed_fields [] h =
      let none : (0 + (size - 1)) / size ≡ 0 = omega (arith, div_below (0 + (size - 1)) size 1 (omega arith) (omega arith)) in
      subst (λ n. Placed 0 (cuts size n [])) (sym none) tt
  placed_fields (p ∷ ps) h =
      let stream = stream_of (p ∷ ps) in
      let long : length stream ≡ 188 * length (p ∷ ps) + 1 = omega (arith, length_bodies (p ∷ ps) h) in
      let total = length stream + (size - 1) in
      let enough = div-mul-le_self total size in
      placed_cuts (total / size) 0 (length (p ∷ ps)) stream (omega (arith, long)) (omega (arith, enough))

  pub joined_fields : (packets : List (List ℕ)) → joined (fields_of size (stream_of packets)) ≡ stream_of packets
  joined_fields packets =
      let stream = stream_of packets in
      let total = length stream + (size - 1) in
      let beyond : total < total / size * size + size = lt-div-mul-add (omega arith) in
      reaches_end (total / size) stream (omega (arith, beyond))

-- all packets are closed in the whole stream
pub all_closed : (packets : List (List ℕ)) → All IsPacket packets → take (closed_in (length (stream_of packets))) packets ≡ packets
all_closed [] h = take_all (closed_in 0) [] (omega arith)
all_closed (p ∷ ps) h =
    let long : length (stream_of (p ∷ ps)) ≡ 188 * length (p ∷ ps) + 1 = omega (arith, length_bodies (p ∷ ps) h) in
    take_all (closed_in (length (stream_of (p ∷ ps)))) (p ∷ ps) (omega (arith, long))

pub placed_front : (xs ys : List (List ℕ)) (at : ℕ) → Placed at (xs ++ ys) → Placed at xs
placed_front [] ys at h = tt
placed_front (x ∷ xs) ys at h = (h.0, placed_front xs ys (at + length x) h.1)
