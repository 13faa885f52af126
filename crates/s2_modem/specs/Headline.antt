-- Laws of a whole link: of each frame, and from packets to packets (EN 302 307-1, 5.1 to 5.5).
use Rattle.std.specs.Prelude.{◌≡◌, ℕ, ◌<◌, ◌≤◌, IsTrue, Bool, List, [], ◌++◌, All, length, map, Option, Some, Ok}
use Rattle.std.specs.Io.KnownBytes.{Appends}
use Rattle.s2_mode.specs.Mode.{Mode, k_of, t_of, symbols_in}
use Rattle.s2_mode.specs.Streams.{Streams}
use Rattle.s2_mode.specs.Symbols.{symbols_of}
use Rattle.s2_mode.specs.declared.symbols.Symbol.{Symbol}
use Rattle.s2_bits.specs.Bits.{differences}
use Rattle.s2_matrix.specs.Code.{code_of}
use Rattle.s2_check.specs.Cost.{IsMostLikely}
use Rattle.s2_split.specs.Scattered.{IsScattered}
use Rattle.s2_bbframe.specs.DataStream.{IsPacket, header_at, to_place, field_bytes, fields_of, stream_of}
use Rattle.s2_receive.specs.Laws.{SpellSymbols}
use Rattle.s2_receive.specs.Receiving.{Decision}
use Rattle.s2_report.specs.declared.totals.Totals.{Totals}
use Rattle.s2_check.specs.Strict.{IsSole}
use Rattle.s2_check.specs.Verdicts.{is_certified}
use Rattle.s2_check.specs.declared.verdict.Verdict.TheVariants.{Sole}
use Rattle.s2_receive.specs.Limits.{max_symbols}
use Rattle.s2_soft.specs.Divisors.{IsDivisor}
use Rattle.s2_link.specs.Limits.{max_roll_off}
use Rattle.s2_tuning.specs.Tuning.{Tuning}
use Rattle.s2_send.specs.declared.outcome.Counts.{Counts}
use Rattle.s2_link.specs.Link.{Link}
use Rattle.s2_send.specs.Laws.{IsLinkOf, ReadFails}
use Rattle.s2_send.specs.Transmitter.{Transmitter}
use Rattle.s2_send.specs.Sending.{AreCodewords, TransmitterRuns, joined}
use Rattle.s2_send.specs.Frames.{IsCodewordFor}
use Rattle.s2_message.specs.Decisions.{received_word, message_of}
use Rattle.s2_modem.specs.Reports.{frame_soft, frame_decision}
use Rattle.s2_report.specs.ReportLines.{end_line}
use Rattle.s2_modem.specs.Reception.{link_rules, ReceivesTotals}
use Rattle.s2_modem.specs.Both.{AreBytes, FramePlace, IsDelivered, IsDeliveredCertified, ReceivesAll, certified_lines, run_places, totals_of}
use Rattle.s2_modem.specs.Front.{clean_energy, clean_figures_by}

-- a frame that has a certificate: no codeword costs less under its soft values than its bits
abbrev pub LikelyFrameLaw : Mode → Type 0
LikelyFrameLaw m =
    (link : Link) (tuning : Tuning) (symbols : List Symbol) → IsLinkOf m link → IsTrue (is_certified (frame_decision link tuning symbols).verdict)
    → IsMostLikely (code_of link.rows) (frame_soft link tuning symbols) (frame_decision link tuning symbols).bits

-- a frame that is called sole: each other codeword costs more
abbrev pub SoleFrameLaw : Mode → Type 0
SoleFrameLaw m =
    (link : Link) (tuning : Tuning) (symbols : List Symbol) → IsLinkOf m link → (frame_decision link tuning symbols).verdict ≡ Sole
    → IsSole (code_of link.rows) (frame_soft link tuning symbols) (frame_decision link tuning symbols).bits

-- the codeword that was sent for a data field of bytes, which begins at this byte of its stream and holds a sync place
pub record IsSent (m : Mode) (link : Link) (at : ℕ) (field : List ℕ) (codeword : List Bool) : Type 0 where
  pub linked : IsLinkOf m link
  pub roll_off : link.setup.roll_off ≤ max_roll_off
  pub bytes : AreBytes field
  pub place : to_place at < length field
  pub fits : length field ≤ field_bytes link.setup.mode
  pub codeword_is : IsCodewordFor link.setup.mode link.rows (header_at link.setup.roll_off at field) field codeword

-- Both codes together. If the first Nbch decided bits differ from the BCH word that was sent in at most t places, the
-- message and the field that were sent are delivered, with that number in the report. This holds for any frame's
-- symbols
abbrev pub CorrectsWithin : Mode → Link → (last : Decision) → Type 0
CorrectsWithin m link last =
    (at : ℕ) (field : List ℕ) (codeword : List Bool) (sent : IsSent m link at field codeword)
    → differences (k_of link.setup.mode) (received_word link.setup.mode last.bits) sent.codeword_is.bch_word ≤ t_of link.setup.mode
    → IsDelivered last (differences (k_of link.setup.mode) (received_word link.setup.mode last.bits) sent.codeword_is.bch_word)
    (message_of link.setup.mode sent.codeword_is.bch_word) (header_at link.setup.roll_off at field) field

-- `CorrectsWithin` holds for all symbols of a link
abbrev pub AllCorrected : Mode → Link → Tuning → Type 0
AllCorrected m link tuning = (symbols : List Symbol) → CorrectsWithin m link (frame_decision link tuning symbols)

-- `AllCorrected` holds for each link and tuning of a mode
abbrev pub BothCodesLaw : Mode → Type 0
BothCodesLaw m = (link : Link) (tuning : Tuning) → AllCorrected m link tuning

-- if a frame's soft values are scattered about the codeword that was sent, that codeword is decided, certified, with no
-- bit changed
abbrev pub ReceivesScattered : Mode → Link → Tuning → List Symbol → (last : Decision) → Type 0
ReceivesScattered m link tuning symbols last =
    (at : ℕ) (field : List ℕ) (codeword : List Bool) (sent : IsSent m link at field codeword) → IsScattered (code_of link.rows) (frame_soft link tuning symbols) codeword
    → IsDeliveredCertified last codeword (message_of link.setup.mode sent.codeword_is.bch_word) (header_at link.setup.roll_off at field) field

-- `ReceivesScattered` holds for each link, tuning and symbols of a mode
abbrev pub ScatteredFrameLaw : Mode → Type 0
ScatteredFrameLaw m = (link : Link) (tuning : Tuning) (symbols : List Symbol) → ReceivesScattered m link tuning symbols (frame_decision link tuning symbols)

-- each frame of a link is received unchanged, with each divisor
abbrev pub ReceivesAllLaw : Mode → Type 0
ReceivesAllLaw m =
    (link : Link) (tuning : Tuning) (limit : ℕ) → IsLinkOf m link → link.setup.roll_off ≤ max_roll_off → IsDivisor tuning.divisor → ReceivesAll link (link_rules link tuning limit)

-- the codewords of the packets of a source, one for each of their data fields
pub record AreSent (link : Link) (source : List ℕ) (codewords : List (List Bool)) : Type 0 where
  pub packets : List (List ℕ)
  pub each_is_packet : All IsPacket packets
  pub source_is : source ≡ joined packets
  pub are_codewords : AreCodewords link 0 (fields_of (field_bytes link.setup.mode) (stream_of packets)) codewords

-- the places of the frames of these codewords in a run. If the tuning asks for figures, they are those without noise
abbrev pub sent_places : Transmitter → Tuning → List (List Bool) → List FramePlace
sent_places t tuning codewords =
    run_places (map (clean_figures_by tuning t.link.setup.mode t.link.setup.number) codewords) (symbols_in t.link.setup.mode) t.dummy_every 1 0

-- all packets, a line for each frame, sole, and the end's
pub record AllArrives (t : Transmitter) (tuning : Tuning) (source : List ℕ) (counts : Counts) (totals : Totals) (before behind : Streams) : Type 0 where
  pub codewords : List (List Bool)
  pub are_sent : AreSent t.link source codewords
  pub packets : Appends before.given behind.given source
  pub totals_are : totals ≡ totals_of (sent_places t tuning codewords) clean_energy counts
  pub lines : Appends before.out behind.out (certified_lines 0 (sent_places t tuning codewords) ++ end_line totals)

-- the frames and dummy frames that a run of the transmitter writes are received completely, with each divisor
abbrev pub ArrivalLaw : Mode → Type 0
ArrivalLaw m =
    (t : Transmitter) (tuning : Tuning) (count_old count_new : ℕ) (source written : List ℕ) (counts : Counts) (totals : Totals) (source_left : Option (List ℕ)) (before behind : Streams)
    → IsLinkOf m t.link → t.link.setup.roll_off ≤ max_roll_off → IsDivisor tuning.divisor → AreBytes source → TransmitterRuns t (ReadFails t.limit count_old count_new) (Some source) source_left (Some []) (Some written) (Ok counts)
    → SpellSymbols before.taken (symbols_of written) → ReceivesTotals (link_rules t.link tuning max_symbols) before behind totals → AllArrives t tuning source counts totals before behind
