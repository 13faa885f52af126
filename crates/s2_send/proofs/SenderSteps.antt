-- A sender makes a frame.
use Rattle.std.proofs.Common.{◌≡◌, ℕ, ◌+◌, Bool, List, [], ◌++◌, length, refl, sym, ap, subst, ◌∙◌, arith}
use Rattle.s2_bbframe.specs.declared.header.Header.{Header}
use Rattle.s2_bbframe.specs.DataStream.{IsReady, field_bytes, header_at, next_field}
use Rattle.s2_link.specs.Link.{Link}
use Rattle.s2_send.specs.Frames.{IsCodewordFor, IsFrameOf, IsUnitOf, sent_behind}
use Rattle.s2_send.specs.Sending.{joined, is_due}
use Rattle.s2_send.specs.Sender.{Stream, Sender, Past, HasPast, Came, GivesField, MakesFrame, at_first, no_past, transmitter_of, with_frame, without_field}
use Rattle.s2_send.proofs.StreamSteps.{first_came}
use Rattle.s2_send.proofs.FieldLemmas.{AreUnits-push, AreCodewords-push}

-- before a stream begins there is no past
pub first_past : (s : Sender) (size limit : ℕ) → s.stream ≡ at_first size limit → size ≡ field_bytes s.link.setup.mode → HasPast no_past s
first_past s size limit is same = record {
  size = ap (λ (x : Stream). x.slicing.size) is ∙ same;
  came = subst (Came [] []) (sym is) (first_came size limit);
  are_units = tt;
  are_codewords = tt;
}

module _ (link : Link) (every : ℕ) (s : Stream) (word word' : List Bool) (unit bytes part : List ℕ) (roll_off : ℕ) (header : Header) (due : Bool) where
  abbrev before : Sender
  before = record { link = link; dummy_every = every; stream = s; codeword = word; unit = unit }

  abbrev behind : Link → Stream → Sender
  behind made stream = record { link = made; dummy_every = every; stream = stream; codeword = word'; unit = bytes ++ sent_behind made due }

  gains : GivesField roll_off s (without_field s) header → roll_off ≡ link.setup.roll_off → part ≡ next_field s.slicing → due ≡ is_due every (s.fields + 1)
      → IsCodewordFor link.setup.mode link.rows header part word' → IsFrameOf link header part bytes
      → (past : Past) → HasPast past before → HasPast (with_frame (next_field s.slicing) word' (bytes ++ sent_behind link due) past) (behind link (without_field s))
  gains gives same part_is due_is is_word framed past h =
      let field = next_field s.slicing in
      let more = gives past.bytes past.fields h.came in
      let place : length (joined past.fields) ≡ 0 + length (joined past.fields) = omega arith in
      let head : header ≡ header_at link.setup.roll_off (0 + length (joined past.fields)) field =
      more.1 ∙ ((λ i. header_at (same i) (length (joined past.fields)) field) ∙ ap (λ n. header_at link.setup.roll_off n field) place) in
      let number : due ≡ is_due every (1 + length past.fields) =
      due_is ∙ ap (is_due every) (let count : s.fields ≡ length past.fields = h.came.field_count in omega (arith, count)) in
      let one : IsUnitOf link due header part (bytes ++ sent_behind link due) = record { frame = bytes; is_frame = framed; spelt = refl } in
      let at_place : IsUnitOf link (is_due every (1 + length past.fields)) (header_at link.setup.roll_off (0 + length (joined past.fields)) field) field (bytes ++ sent_behind link due) =
      subst (λ b. IsUnitOf link b (header_at link.setup.roll_off (0 + length (joined past.fields)) field) field (bytes ++ sent_behind link due)) number
      (subst (λ x. IsUnitOf link due x field (bytes ++ sent_behind link due)) head (subst (λ p. IsUnitOf link due header p (bytes ++ sent_behind link due)) part_is one)) in
      let word_at : IsCodewordFor link.setup.mode link.rows (header_at link.setup.roll_off (0 + length (joined past.fields)) field) field word' =
      subst (λ x. IsCodewordFor link.setup.mode link.rows x field word') head (subst (λ p. IsCodewordFor link.setup.mode link.rows header p word') part_is is_word) in
      record {
        size = h.size;
        came = more.0;
        are_units = AreUnits-push (transmitter_of before) 1 0 past.fields past.units field (bytes ++ sent_behind link due) h.are_units at_place;
        are_codewords = AreCodewords-push link 0 past.fields past.codewords field word' h.are_codewords word_at;
      }

  made : IsReady s.slicing → GivesField roll_off s (without_field s) header → roll_off ≡ link.setup.roll_off → part ≡ next_field s.slicing → due ≡ is_due every (s.fields + 1)
      → IsCodewordFor link.setup.mode link.rows header part word' → IsFrameOf link header part bytes → MakesFrame before (behind link (without_field s))
  made ready gives same part_is due_is is_word framed = record {
    ready = ready;
    stream = refl;
    past = gains gives same part_is due_is is_word framed;
    same = record { link = refl; dummy_every = refl; limit = refl };
  }

  pub makes_frame : (link' : Link) (s' : Stream) → link' ≡ link → s' ≡ without_field s → IsReady s.slicing → GivesField roll_off s s' header → roll_off ≡ link.setup.roll_off
      → part ≡ next_field s.slicing → due ≡ is_due every s'.fields → IsCodewordFor link.setup.mode link.rows header part word' → IsFrameOf link header part bytes
      → MakesFrame before (behind link' s')
  makes_frame link' s' same_link same_stream ready gives same part_is due_is is_word framed =
      subst (λ x. MakesFrame before (behind x s')) (sym same_link) (subst (λ x. MakesFrame before (behind link x)) (sym same_stream)
      (made ready (subst (λ x. GivesField roll_off s x header) same_stream gives) same part_is (due_is ∙ ap (λ x. is_due every x.fields) same_stream) is_word framed))
