-- The frame of a header and its data field, and dummy frames after it (EN 302 307-1, 5.2 to 5.5).
use Rattle.std.specs.Prelude.{◌≡◌, ℕ, ◌-◌, ◌*◌, Bool, false, List, [], ◌++◌, length, replicate, if◌then◌else◌}
use Rattle.s2_mode.specs.Mode.{Mode, kbch_of, k_of, n_of, shape_in, HasCodeSizes}
use Rattle.s2_mode.specs.Symbols.{bytes_of_symbols}
use Rattle.s2_bits.specs.Bits.{bits_of_bytes}
use Rattle.s2_rows.specs.Rows.{Rows}
use Rattle.s2_matrix.specs.Code.{code_of}
use Rattle.s2_bbframe.specs.declared.header.Header.{Header}
use Rattle.s2_bbframe.specs.Headers.{header_bytes}
use Rattle.s2_scramble.specs.Baseband.{scrambled}
use Rattle.s2_bch.specs.Codes.{IsBchWordOf}
use Rattle.s2_ldpc.specs.Encoding.{IsCodewordOf}
use Rattle.s2_map.specs.Mapping.{payload_of}
use Rattle.s2_plframe.specs.Frame.{frame_symbols}
use Rattle.s2_plframe.specs.Dummy.{dummy_frame}
use Rattle.s2_link.specs.Link.{Link}

-- the bits of a header and of its data field, and zeros to a length
abbrev pub padded_bits : ℕ → List ℕ → List ℕ → List Bool
padded_bits size header field = bits_of_bytes (header ++ field) ++ replicate (size - 8 * length (header ++ field)) false

-- the baseband frame: the header's 80 bits, the data field's bits, zeros to Kbch; scrambled (5.2)
abbrev pub baseband_frame : Mode → Header → List ℕ → List Bool
baseband_frame mode header field = scrambled (padded_bits (kbch_of mode) (header_bytes header) field)

-- the codeword that begins with the BCH word of the baseband frame; there is only one
pub record IsCodewordFor (mode : Mode) (rows : Rows) (header : Header) (field : List ℕ) (codeword : List Bool) : Type 0 where
  pub bch_word : List Bool
  pub is_bch_word : IsBchWordOf mode (baseband_frame mode header field) bch_word
  pub is_codeword : IsCodewordOf (code_of rows) bch_word codeword

-- the bytes of the symbols of the physical layer frame of a codeword (5.3.3 to 5.5)
abbrev pub frame_bytes : Mode → ℕ → List Bool → List ℕ
frame_bytes mode number codeword = bytes_of_symbols (frame_symbols mode number (payload_of mode codeword))

-- the bytes of the frame of a header and its data field
pub record IsFrameOf (link : Link) (header : Header) (field bytes : List ℕ) : Type 0 where
  pub codeword : List Bool
  pub is_codeword : IsCodewordFor link.setup.mode link.rows header field codeword
  pub spelt : bytes ≡ frame_bytes link.setup.mode link.setup.number codeword

-- the bytes of the symbols of a dummy frame (5.5.1)
abbrev pub dummy_bytes : ℕ → List ℕ
dummy_bytes number = bytes_of_symbols (dummy_frame number)

-- the bytes sent after a frame: a dummy frame if one is due
abbrev pub sent_behind : Link → Bool → List ℕ
sent_behind link due = if due then dummy_bytes link.setup.number else []

-- the bytes sent for a header and its data field, the unit of a run: their frame, and the dummy frame after it if one
-- is due
pub record IsUnitOf (link : Link) (due : Bool) (header : Header) (field bytes : List ℕ) : Type 0 where
  pub frame : List ℕ
  pub is_frame : IsFrameOf link header field frame
  pub spelt : bytes ≡ frame ++ sent_behind link due

-- ---- what the stages hold

-- the coding half: what codes, and the last codeword
pub record Coding : Type 0 where
  pub mode : Mode
  pub rows : Rows
  pub codeword : List Bool

-- the address rows and the buffers are the mode's
pub record FitsCode (coding : Coding) (message bch_word : List Bool) : Type 0 where
  pub sizes : HasCodeSizes coding.mode
  pub shape : coding.rows.shape ≡ shape_in coding.mode
  pub message_bits : length message ≡ kbch_of coding.mode
  pub bch_bits : length bch_word ≡ k_of coding.mode
  pub code_bits : length coding.codeword ≡ n_of coding.mode

-- the modulating half: what modulates, and the bytes of the last frame
pub record Modulation : Type 0 where
  pub mode : Mode
  pub number : ℕ
  pub bytes : List ℕ

-- a maker of frames: its link, the last codeword, and the bytes of the last frame
pub record Framing : Type 0 where
  pub link : Link
  pub codeword : List Bool
  pub bytes : List ℕ
