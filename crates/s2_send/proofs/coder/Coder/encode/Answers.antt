use Rattle.std.proofs.Common.{◌≡◌, ℕ, List, Bool, length, drop, subst, ap, ◌∙◌, arith}
use Rattle.std.specs.List.{refill}
use Rattle.std.proofs.lemmas.List.{take_all, take-append-le}
use Rattle.s2_mode.specs.Mode.{Mode, kbch_of}
use Rattle.s2_matrix.specs.Code.{code_of}
use Rattle.s2_bch.specs.Codes.{IsBchWordOf}
use Rattle.s2_ldpc.specs.Encoding.{IsCodewordOf}
use Rattle.s2_scramble.specs.Baseband.{scrambled}
use Rattle.s2_send.specs.Frames.{baseband_frame, padded_bits}
use Rattle.s2_send.proofs.coder.Coder.encode.Goals as goal

-- a slice that is lent and has the list's length is the whole list
refill_whole : (n : ℕ) (xs ws : List Bool) → length ws ≡ n → refill n xs ws ≡ ws
refill_whole n xs ws long = take-append-le n ws (drop (length ws) xs) (omega arith) ∙ take_all n ws (omega arith)

pub returns-clause-codeword : goal.returns-clause-codeword
returns-clause-codeword c =
    let inside = c.self.inside in
    let mode : Mode = c.args.self.now.mode in
    let word : List Bool = c.encode_into.new.word in
    let message : List Bool = c.bb_xor_in_place.new.bits in
    let frame : List Bool = baseband_frame mode c.args.header.now c.args.field.now in
    let long : length c.frame_bits_into.new.bits ≡ length inside.message = c.frame_bits_into.auto.bits ∙ ap length c.truths_mut.ensures.value in
    let added : message ≡ scrambled c.frame_bits_into.new.bits =
    c.bb_xor_in_place.ensures.is ∙ ap scrambled (refill_whole (length inside.message) inside.message c.frame_bits_into.new.bits long) in
    let size : length c.truths_mut.result.now ≡ kbch_of mode =
    ap length c.truths_mut.ensures.value ∙ c.self.invariant.message_bits ∙ ap (λ x. kbch_of x.mode) c.self.view_is in
    let spelt : c.frame_bits_into.new.bits ≡ padded_bits (length c.truths_mut.result.now) c.write.new.bytes c.args.field.now = c.frame_bits_into.ensures in
    let is_frame : message ≡ frame = added ∙ ap scrambled (spelt ∙ (λ t. padded_bits (size t) (c.write.ensures.bytes t) c.args.field.now)) in
    let same_mode : inside.bch ≡ mode = ap (λ x. x.mode) c.self.view_is in
    record {
      bch_word = word;
      is_bch_word = subst (λ m. IsBchWordOf m frame word) same_mode (subst (λ x. IsBchWordOf inside.bch x word) is_frame c.encode_into.ensures.is);
      is_codeword = subst (λ r. IsCodewordOf (code_of r) word c.encode_into-2.new.codeword) (ap (λ x. x.rows) c.self.view_is) c.encode_into-2.ensures;
    }
