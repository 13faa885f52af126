-- What a refused packet tells about the size of the packets, and the words of it (own).
use Rattle.std.specs.Prelude.{ℕ, ◌==◌, ◌&&◌, ◌||◌, Bool, if◌then◌else◌, List, [], codes, slice_index}
use Rattle.s2_bbframe.specs.Limits.{sync}
use Rattle.s2_send.specs.declared.outcome.PacketSize.{PacketSize}
use Rattle.s2_send.specs.declared.outcome.PacketSize.TheVariants.{Unknown, Has192, Has204}
use Rattle.s2_send.specs.declared.outcome.SendFault.{SendFault}
use Rattle.s2_send.specs.declared.outcome.SendFault.TheVariants.{NoSync}

-- whether this byte of a packet is that with which packets begin
abbrev pub has_sync_at : List ℕ → ℕ → Bool
has_sync_at bytes place = slice_index bytes place == sync

-- The size that a refused packet tells, by its number and its 188 bytes. In packets of 204 bytes the second packet of 188
-- bytes has the next sync at its byte 16. In packets of 192 bytes the sync comes after four bytes: in the first packet at
-- its byte 4, and also in the second one, if the file begins with a sync
abbrev pub size_told : ℕ → List ℕ → PacketSize
size_told packet bytes =
    if (packet == 2) && has_sync_at bytes 16
    then Has204
    else if ((packet == 1) || (packet == 2)) && has_sync_at bytes 4 then Has192 else Unknown

-- what to do with packets of this size
abbrev pub size_hint : PacketSize → List ℕ
size_hint Unknown = []
size_hint Has192 = codes "192-byte packets: strip the 4 bytes of the time code first"
size_hint Has204 = codes "204-byte packets: strip the 16 Reed-Solomon bytes first"

-- the hint of a fault: none, if it tells no size
abbrev pub send_hint : SendFault → List ℕ
send_hint (NoSync packet size) = size_hint size
send_hint fault = []
