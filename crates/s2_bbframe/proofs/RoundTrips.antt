-- The fields of a data stream give its packets again.
use Rattle.std.proofs.Common.{◌≡◌, ℕ, ◌+◌, ◌-◌, ◌*◌, ◌/◌, true, List, [], ◌∷◌, ◌++◌, All, None, length, take, refl, sym, ap, ◌∙◌, arith, cond, lt-ltb}
use Rattle.std.specs.List.{flat_map}
use Rattle.std.specs.Prelude.{nat_lt}
use Rattle.s2_bbframe.specs.DataStream.{IsPacket, stream_of, to_place, header_at}
use Rattle.s2_bbframe.specs.Joining.{field, joining, incomplete, events_from, Placed}
use Rattle.s2_bbframe.specs.Gaps.{cut_events}
use Rattle.s2_bbframe.proofs.Parts.{part_given, lost_incomplete}

module _ (ro : ℕ) where
  -- where a place lies in each field its header is that of any field
  same_events : (at : ℕ) (fs : List (List ℕ)) → Placed at fs → cut_events ro at fs ≡ events_from ro at fs
  same_events at [] placed = refl
  same_events at (f ∷ fs) placed =
      let there : nat_lt (to_place at) (length f) ≡ true = lt-ltb (to_place at) (length f) placed.0 in
      let others = cut_events ro (at + length f) fs in
      ap (λ b. field (record { roll_off = ro; second = 0; dfl = 8 * length f; syncd = cond b (8 * to_place at) 65535 }) f ∷ others) there
      ∙ ap (λ l. field (header_at ro at f) f ∷ l) (same_events (at + length f) fs placed.1)

  -- whatever fields of the stream come first, the packets that are closed in them are given, and none is bad or incomplete
  pub round_trip : (packets fs : List (List ℕ)) (rest : List ℕ) → All IsPacket packets → stream_of packets ≡ flat_map (λ f. f) fs ++ rest → Placed 0 fs
      → ((joining None (events_from ro 0 fs)).good ≡ take ((length (flat_map (λ f. f) fs) - 1) / 188) packets) × ((joining None (events_from ro 0 fs)).bad ≡ 0) × (incomplete None (events_from ro 0 fs) ≡ 0)
  round_trip packets fs rest each whole placed =
      let same = sym (same_events 0 fs placed) in
      let given = part_given ro packets each (record { at = 0; fields = fs }) (rest, whole) in
      let long = length (flat_map (λ f. f) fs) in
      let from : 0 + long ≡ long = omega arith in
      (ap (λ l. (joining None l).good) same ∙ given.0 ∙ ap (λ n. take ((n - 1) / 188) packets) from, ap (λ l. (joining None l).bad) same ∙ given.1, ap (incomplete None) same ∙ lost_incomplete ro 0 fs)
