-- Laws, which follow from the definitions alone (own).
use Rattle.std.specs.Prelude.{◌≡◌, ℕ, ◌+◌, List, [], ◌∷◌, ◌++◌, length, take, replicate, All, Some, ⊤}
use Rattle.s2_mode.specs.Mode.{Mode, IsMode}
use Rattle.s2_bbframe.specs.DataStream.{IsPacket, stream_of, header_at}
use Rattle.s2_bbframe.specs.Joining.{gap, Placed, closed_in}
use Rattle.s2_receive.specs.Laws.{joined}
use Rattle.s2_records.specs.Frames.{frame_bytes, delivered_in, event_of, joined_from, frames_in, cut_in}
use Rattle.s2_records.specs.Counting.{counts_of}

-- a frame of zeros is a gap: its header is refused
abbrev pub ZerosLaw : Type 0
ZerosLaw = (m : Mode) (n : ℕ) → event_of m (replicate n 0) ≡ gap

-- whole frames, one after another, are the frames of the file that they make, and none is cut
abbrev pub TogetherLaw : Type 0
TogetherLaw = (m : Mode) (frames : List (List ℕ)) → IsMode m → All (λ frame. length frame ≡ frame_bytes m) frames → (frames_in m (joined frames) ≡ frames) × (cut_in m (joined frames) ≡ 0)

-- frames that deliver consecutive data fields, from a byte of their stream on, each with its header
abbrev pub AreFramesOf : Mode → ℕ → ℕ → List (List ℕ) → List (List ℕ) → Type 0
AreFramesOf m roll_off at [] [] = ⊤
AreFramesOf m roll_off at [] (frame ∷ frames) = ⊥
AreFramesOf m roll_off at (bytes ∷ fields) [] = ⊥
AreFramesOf m roll_off at (bytes ∷ fields) (frame ∷ frames) =
    (delivered_in m frame ≡ Some (header_at roll_off at bytes, bytes)) × AreFramesOf m roll_off (at + length bytes) fields frames

-- a join gives the packets whose closing CRC-8 is in these fields, all frames are delivered, and no packet is bad
pub record GivesBack (m : Mode) (packets fields frames : List (List ℕ)) : Type 0 where
  pub good : (joined_from m frames).good ≡ take (closed_in (length (joined fields))) packets
  pub delivered : (counts_of m frames).delivered ≡ length frames
  pub bad : (counts_of m frames).bad ≡ 0

-- frames of the first data fields of a stream of packets, whatever their padding, give the packets back
abbrev pub RoundTripLaw : Type 0
RoundTripLaw =
    (m : Mode) (roll_off : ℕ) (packets fields frames : List (List ℕ)) (rest : List ℕ)
    → All IsPacket packets → stream_of packets ≡ joined fields ++ rest → Placed 0 fields → AreFramesOf m roll_off 0 fields frames → GivesBack m packets fields frames
