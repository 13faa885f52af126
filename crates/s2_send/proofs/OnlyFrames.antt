-- A header and its data field have one frame.
use Rattle.std.proofs.Common.{◌≡◌, ℕ, ◌+◌, ◌-◌, ◌*◌, ◌≤◌, Bool, false, List, ◌++◌, length, drop, refl, sym, ap, subst, ◌∙◌, arith, length-append}
use Rattle.std.proofs.Math.ListN.{length-replicate}
use Rattle.s2_mode.specs.Mode.{Mode, HasCodeSizes, kbch_of, k_of, shape_in}
use Rattle.s2_mode.specs.Shape.{information_bits}
use Rattle.s2_rows.specs.Rows.{Rows}
use Rattle.s2_matrix.specs.Code.{code_of}
use Rattle.s2_bbframe.specs.declared.header.Header.{Header}
use Rattle.s2_bbframe.specs.DataStream.{field_bytes}
use Rattle.s2_bbframe.specs.Headers.{header_bytes}
use Rattle.s2_scramble.proofs.Blocks.{length-scrambled}
use Rattle.s2_bch.specs.Words.{IsWordOf}
use Rattle.s2_bch.specs.Codes.{IsBchWordOf}
use Rattle.s2_bch.specs.Generators.{generator_of}
use Rattle.s2_bch.proofs.GeneratorDegrees.{parity_bits}
use Rattle.s2_bch.proofs.WordFacts.{word-unique}
use Rattle.s2_ldpc.specs.Encoding.{IsCodewordOf, UniqueLaw}
use Rattle.s2_link.specs.Link.{Link}
use Rattle.s2_bits.specs.Bits.{bits_of_bytes}
use Rattle.s2_bits.proofs.Spelled.{length-bits_of_bytes}
use Rattle.s2_send.specs.Frames.{padded_bits, baseband_frame, IsCodewordFor, IsFrameOf, frame_bytes}
use Rattle.s2_send.specs.Laws.{FrameLaw}

length-header_bytes : (h : Header) → length (header_bytes h) ≡ 10
length-header_bytes h = refl

-- a baseband frame has Kbch bits
pub length-baseband_frame : (m : Mode) (h : Header) (field : List ℕ) → HasCodeSizes m → length field ≤ field_bytes m → length (baseband_frame m h field) ≡ kbch_of m
length-baseband_frame m h field sizes fits =
    let header : length (header_bytes h) ≡ 10 = length-header_bytes h in
    let bytes : length (header_bytes h ++ field) ≡ length (header_bytes h) + length field = length-append (header_bytes h) field in
    let bits : length (bits_of_bytes (header_bytes h ++ field)) ≡ 8 * length (header_bytes h ++ field) = length-bits_of_bytes (header_bytes h ++ field) in
    let zeros = length-replicate (kbch_of m - 8 * length (header_bytes h ++ field)) false in
    let most : kbch_of m ≡ 80 + 8 * field_bytes m = sizes.field in
    length-scrambled (padded_bits (kbch_of m) (header_bytes h) field)
    ∙ (length-append (bits_of_bytes (header_bytes h ++ field)) _ ∙ omega (arith, bits, zeros))

module _ (m : Mode) (sizes : HasCodeSizes m) where
  one_bch_word : (message u v : List Bool) → IsBchWordOf m message u → IsBchWordOf m message v → u ≡ v
  one_bch_word message u v U V =
      let begins = (parity_bits m sizes).generator.begins in
      word-unique (drop 1 (generator_of m)) message u v (subst (λ g. IsWordOf g message u) begins U) (subst (λ g. IsWordOf g message v) begins V)

  pub length-bch_word : (message u : List Bool) → length message ≡ kbch_of m → IsBchWordOf m message u → length u ≡ k_of m
  length-bch_word message u long U =
      let parity = parity_bits m sizes in
      omega (arith, U.size, parity.size, parity.generator.size)

  -- the codeword is determined by both codes
  one_codeword : UniqueLaw → (rows : Rows) (h : Header) (field : List ℕ) (a b : List Bool) → rows.shape ≡ shape_in m → length field ≤ field_bytes m
      → IsCodewordFor m rows h field a → IsCodewordFor m rows h field b → a ≡ b
  one_codeword law rows h field a b shape fits A B =
      let frame = baseband_frame m h field in
      let same : B.bch_word ≡ A.bch_word = one_bch_word frame B.bch_word A.bch_word B.is_bch_word A.is_bch_word in
      let whole : k_of m ≡ information_bits (shape_in m) = sizes.groups in
      let long : length A.bch_word ≡ information_bits rows.shape =
      length-bch_word frame A.bch_word (length-baseband_frame m h field sizes fits) A.is_bch_word ∙ (whole ∙ ap information_bits (sym shape)) in
      law rows A.bch_word a b long A.is_codeword (subst (λ w. IsCodewordOf (code_of rows) w b) same B.is_codeword)

  one_frame_of : UniqueLaw → (link : Link) (h : Header) (field a b : List ℕ) → link.setup.mode ≡ m → link.rows.shape ≡ shape_in m → length field ≤ field_bytes m
      → IsFrameOf link h field a → IsFrameOf link h field b → a ≡ b
  one_frame_of law link h field a b mode shape fits A B =
      let same : A.codeword ≡ B.codeword =
      one_codeword law link.rows h field A.codeword B.codeword shape fits
      (subst (λ x. IsCodewordFor x link.rows h field A.codeword) mode A.is_codeword)
      (subst (λ x. IsCodewordFor x link.rows h field B.codeword) mode B.is_codeword) in
      A.spelt ∙ (ap (frame_bytes link.setup.mode link.setup.number) same ∙ sym B.spelt)

  pub one_frame_law : UniqueLaw → FrameLaw m
  one_frame_law law = λ link h field a b linked fits A B.
      one_frame_of law link h field a b linked.0 (linked.1 ∙ ap shape_in linked.0) fits A B
