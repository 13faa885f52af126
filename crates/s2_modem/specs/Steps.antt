-- The result of a run, and of a step if the search is at a frame that was sent (EN 302 307-1, 5.1 to 5.5).
use Rattle.std.specs.Prelude.{ℕ, Bool, List}
use Rattle.s2_mode.specs.declared.symbols.Symbol.{Symbol}
use Rattle.s2_bbframe.specs.DataStream.{header_at}
use Rattle.s2_link.specs.Link.{Link}
use Rattle.s2_tuning.specs.Tuning.{Tuning}
use Rattle.s2_message.specs.Decisions.{message_of}
use Rattle.s2_modem.specs.Reports.{frame_decision}
use Rattle.s2_modem.specs.Both.{IsDeliveredCertified}
use Rattle.s2_modem.specs.Headline.{IsSent, AllCorrected}
use Rattle.s2_modem.specs.Streams.{IsWholeFrame, IsClear}

-- the decision on the symbols of each such frame of a link
pub record DeliversAll (link : Link) (tuning : Tuning) : Type 0 where
  pub clear : (behind : Bool) (at : ℕ) (field : List ℕ) (codeword : List Bool) (symbols : List Symbol) (sent : IsSent link.setup.mode link at field codeword)
      → IsClear link tuning behind codeword symbols
      → IsWholeFrame link tuning behind symbols
      × IsDeliveredCertified (frame_decision link tuning symbols) codeword (message_of link.setup.mode sent.codeword_is.bch_word) (header_at link.setup.roll_off at field) field
  pub corrected : AllCorrected link.setup.mode link tuning
