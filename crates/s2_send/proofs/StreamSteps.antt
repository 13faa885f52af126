-- The steps of a stream: bytes come, a packet is accepted, a data field is taken.
use Rattle.std.proofs.Common.{◌≡◌, ◌≢◌, ℕ, zero, suc, ◌+◌, ◌<◌, ◌≤◌, inl, inr, Bool, true, false, List, [], ◌∷◌, ◌++◌, All, length, take, drop, refl, sym, ap, subst, ◌∙◌, arith, append_assoc, append-nil, length-append, length-drop, length-take-le, take-append-drop}
use Rattle.std.specs.Prelude.{MatchBool, slice_index}
use Rattle.std.proofs.lemmas.Bool.{cases_lt}
use Rattle.std.proofs.lemmas.List.{length_push, take_all, drop_all}
use Rattle.std.proofs.lemmas.List.Elements.{All-nil, All-push}
use Rattle.std.proofs.Math.Seq.{take-append-add}
use Rattle.s2_bbframe.specs.declared.header.Header.{Header}
use Rattle.s2_bbframe.specs.Crc.{crc8}
use Rattle.s2_bbframe.specs.DataStream.{IsPacket, Slicing, Sliced, IsReady, TakesField, closed_body, next_field, after_field, after_packet, gained, stream_of}
use Rattle.s2_send.specs.Hints.{size_told}
use Rattle.s2_send.specs.Limits.{max_packets}
use Rattle.s2_send.specs.declared.outcome.PacketSize.{PacketSize}
use Rattle.s2_send.specs.declared.outcome.SendFault.{SendFault}
use Rattle.s2_send.specs.declared.outcome.SendFault.TheVariants.{NoSync}
use Rattle.s2_send.specs.Sending.{joined}
use Rattle.s2_send.specs.Sender.{Stream, IsStream, AreCut, Came, ComesOn, Grows, TakesUpTo, SameStream, GivesField, at_first}
use Rattle.s2_send.proofs.Waiting.{full_ready}
use Rattle.s2_send.proofs.FieldLemmas.{joined-push, fields_are_and}

-- ---- the start

pub first_came : (size limit : ℕ) → Came [] [] (at_first size limit)
first_came size limit = record {
  packets = [];
  each_is_packet = All-nil IsPacket;
  bytes_are = refl;
  packet_count = refl;
  field_count = refl;
  sliced = record { begun = refl; phase = refl; whole = refl };
  are_cut = inl (All-nil (λ f. length f ≡ size));
}

-- ---- bytes come

module _ (s : Stream) (h more : List ℕ) (is : h ≡ s.held ++ more) where
  abbrev with_held : Stream
  with_held = record { slicing = s.slicing; held = h; packets = s.packets; fields = s.fields; limit = s.limit }

  bytes_more : (bytes : List ℕ) (packets : List (List ℕ)) → bytes ≡ joined packets ++ s.held → bytes ++ more ≡ joined packets ++ h
  bytes_more bytes packets e = ap (λ b. b ++ more) e ∙ (append_assoc (joined packets) s.held more ∙ ap (λ l. joined packets ++ l) (sym is))

  pub comes_part : ComesOn more s with_held
  comes_part = λ bytes fields came. record {
    packets = came.packets;
    each_is_packet = came.each_is_packet;
    bytes_are = bytes_more bytes came.packets came.bytes_are;
    packet_count = came.packet_count;
    field_count = came.field_count;
    sliced = came.sliced;
    are_cut = came.are_cut;
  }

  pub grows_part : Grows s with_held (length more)
  grows_part = record {
    packets = omega arith;
    bytes = (let long : length h ≡ length s.held + length more = ap length is ∙ length-append s.held more in omega (arith, long));
    slicing = λ e. refl;
  }

-- fields that are cut from a stream that goes on
cut_goes_on : (packets packets' fields : List (List ℕ)) (S S' : Slicing) → S.closed ≡ false → S'.size ≡ S.size → AreCut packets fields S → AreCut packets' fields S'
cut_goes_on packets packets' fields S S' goes size (inl full) = inl (subst (λ n. All (λ f. length f ≡ n) fields) (sym size) full)
cut_goes_on packets packets' fields S S' goes size (inr over) = (let both : true ≡ false = sym over.0 ∙ goes in absurd (cc))

-- after a packet no more than its bytes wait beyond a field
gained_most : (begun : Bool) (w p : List ℕ) (size : ℕ) → IsPacket p → (begun ≡ false → length w ≡ 0) → length w < size → 188 < size
    → (length (w ++ gained begun p) < size + 188) × (length (w ++ gained begun p) ≤ length w + 189)
gained_most true w p size packet none room large =
    let body : length (closed_body p) ≡ length (drop 1 p) + 1 = length-append (drop 1 p) (crc8 (drop 1 p) ∷ []) in
    let all : length (w ++ closed_body p) ≡ length w + length (closed_body p) = length-append w (closed_body p) in
    (omega (arith, body, all, length-drop 1 p, packet.0), omega (arith, body, all, length-drop 1 p, packet.0))
gained_most false w p size packet none room large =
    let body : length (closed_body p) ≡ length (drop 1 p) + 1 = length-append (drop 1 p) (crc8 (drop 1 p) ∷ []) in
    let all : length (w ++ 0 ∷ closed_body p) ≡ length w + suc (length (closed_body p)) = length-append w (0 ∷ closed_body p) in
    let zero_w : length w ≡ 0 = none refl in
    (omega (arith, body, all, length-drop 1 p, packet.0, zero_w), omega (arith, body, all, length-drop 1 p, packet.0, zero_w))

module _ (s : Stream) (S' : Slicing) (h none : List ℕ) (packet : IsPacket h) (after : S' ≡ after_packet h s.slicing) (empty : none ≡ []) (goes : s.slicing.closed ≡ false) where
  abbrev with_packet : Stream
  with_packet = record { slicing = S'; held = none; packets = s.packets + 1; fields = s.fields; limit = s.limit }

  pub comes_packet : (more : List ℕ) → h ≡ s.held ++ more
      → ((packets fields : List (List ℕ)) → Sliced packets fields s.slicing → Sliced (packets ++ h ∷ []) fields S') → ComesOn more s with_packet
  comes_packet more is slices = λ bytes fields came. record {
    packets = came.packets ++ h ∷ [];
    each_is_packet = All-push IsPacket came.packets h came.each_is_packet packet;
    bytes_are = bytes_more s h more is bytes came.packets came.bytes_are
        ∙ (sym (joined-push came.packets h) ∙ (sym (append-nil (joined (came.packets ++ h ∷ []))) ∙ ap (λ l. joined (came.packets ++ h ∷ []) ++ l) (sym empty)));
    packet_count = omega (arith, came.packet_count, length_push came.packets h);
    field_count = came.field_count;
    sliced = slices came.packets fields came.sliced;
    are_cut = cut_goes_on came.packets (came.packets ++ h ∷ []) fields s.slicing S' goes (ap (λ x. x.size) after) came.are_cut;
  }

  pub is_packet : IsStream s → s.packets < s.limit → (IsReady s.slicing → ⊥) → IsStream with_packet
  is_packet sound few not_ready =
      let not_full : s.slicing.size ≤ length s.slicing.waiting → ⊥ = λ k. not_ready (full_ready s.slicing goes k) in
      let room : length s.slicing.waiting < s.slicing.size = omega (arith, not_full) in
      let size : S'.size ≡ s.slicing.size = ap (λ x. x.size) after in
      let closed : S'.closed ≡ false = ap (λ x. x.closed) after ∙ goes in
      let begun : S'.begun ≡ true = ap (λ x. x.begun) after in
      let long : length S'.waiting ≡ length (s.slicing.waiting ++ gained s.slicing.begun h) = ap (λ x. length x.waiting) after in
      let most = gained_most s.slicing.begun s.slicing.waiting h s.slicing.size packet sound.1.none room sound.0.large in
      let nothing : length none ≡ 0 = ap length empty in (
        record {
          large = omega (arith, size, sound.0.large);
          within = omega (arith, few);
          at_limit = λ e. empty;
          at_end = λ e. empty;
          at_field = λ e. empty;
          needed = omega (arith, long, size, most.0);
          at_refusal = λ e. absurd (omega (arith, e, nothing));
          part = omega (arith, nothing);
        },
        record {
          most = sound.1.most;
          few = omega (arith, sound.1.few, long, most.1);
          none = λ e. (let both : true ≡ false = sym begun ∙ e in absurd (cc));
        },
      )

-- a packet that is refused is whole; at least a byte of it came, or it would have been refused before
came_some : (held bytes h : List ℕ) (n : ℕ) → (length held ≡ 188 → slice_index held 0 ≢ 71) → h ≡ held ++ take n bytes → IsPacket h → 0 < n
came_some held bytes h zero refused is packet =
    let same : h ≡ held = is ∙ append-nil held in
    absurd (refused (sym (ap length same) ∙ packet.0) (sym (ap (λ l. slice_index l 0) same) ∙ packet.1))
came_some held bytes h (suc n) refused is packet = omega arith

pub takes_packet : (s : Stream) (S' : Slicing) (h none bytes : List ℕ) (n : ℕ) → IsStream s → n ≤ length bytes → h ≡ s.held ++ take n bytes → IsPacket h
    → S' ≡ after_packet h s.slicing → ((packets fields : List (List ℕ)) → Sliced packets fields s.slicing → Sliced (packets ++ h ∷ []) fields S')
    → s.slicing.closed ≡ false → none ≡ []
    → (0 < n) × (n ≤ length bytes)
    × ComesOn (take n bytes) s (record { slicing = S'; held = none; packets = s.packets + 1; fields = s.fields; limit = s.limit })
    × Grows s (record { slicing = S'; held = none; packets = s.packets + 1; fields = s.fields; limit = s.limit }) n
    × (length none < 188)
takes_packet s S' h none bytes n sound few is packet after slices goes empty =
    let taken : length (take n bytes) ≡ n = length-take-le n bytes few in
    let long : length h ≡ length s.held + n = ap length is ∙ (length-append s.held (take n bytes) ∙ ap (λ k. length s.held + k) taken) in
    let nothing : length none ≡ 0 = ap length empty in (
      came_some s.held bytes h n sound.0.at_refusal is packet,
      few,
      comes_packet s S' h none packet after empty goes (take n bytes) is slices,
      record { packets = omega arith; bytes = omega (arith, long, nothing, packet.0); slicing = λ e. absurd (omega (arith, e)) },
      omega (arith, nothing),
    )

pub refused_packet : (s : Stream) (S' : Slicing) (h bytes : List ℕ) (n : ℕ) (told : PacketSize) → S' ≡ s.slicing → n ≤ length bytes → h ≡ s.held ++ take n bytes → s.packets < s.limit
    → (IsReady s.slicing → ⊥) → length h ≡ 188 → slice_index h 0 ≢ 71 → told ≡ size_told (s.packets + 1) h
    → TakesUpTo s (record { slicing = S'; held = h; packets = s.packets; fields = s.fields; limit = s.limit }) bytes (NoSync (s.packets + 1) told)
refused_packet s S' h bytes n told same few is within not_ready whole no_sync told_is =
    let taken : length (take n bytes) ≡ n = length-take-le n bytes few in
    let new : Slicing → Stream = λ x. record { slicing = x; held = h; packets = s.packets; fields = s.fields; limit = s.limit } in
    record {
      n = n;
      few = few;
      comes = subst (λ x. ComesOn (take n bytes) s (new x)) (sym same) (comes_part s h (take n bytes) is);
      grows = subst (λ x. Grows s (new x) n) (sym same) (subst (Grows s (new s.slicing)) taken (grows_part s h (take n bytes) is));
      refuses = (within, whole, no_sync, refl, told_is);
      beyond = λ e. absurd (cc);
      goes_on = λ e. absurd (cc);
      none = subst (λ x. IsReady x → ⊥) (sym same) not_ready;
    }

-- ---- one step after another

pub comes_on : (s t u : Stream) (a b : List ℕ) → ComesOn a s t → ComesOn b t u → ComesOn (a ++ b) s u
comes_on s t u a b f g = λ bytes fields came. subst (λ l. Came l fields u) (append_assoc bytes a b) (g (bytes ++ a) fields (f bytes fields came))

pub grows_on : (s t u : Stream) (n m : ℕ) → Grows s t n → Grows t u m → Grows s u (n + m)
grows_on s t u n m f g = record {
  packets = omega (arith, f.packets, g.packets);
  bytes = omega (arith, f.bytes, g.bytes);
  slicing = λ e. g.slicing (omega (arith, e, f.packets, g.packets)) ∙ f.slicing (omega (arith, e, f.packets, g.packets));
}

pub same_on : (s t u : Stream) → SameStream s t → SameStream t u → SameStream s u
same_on s t u f g = record { size = g.size ∙ f.size; closed = g.closed ∙ f.closed; limit = g.limit ∙ f.limit; fields = g.fields ∙ f.fields }

module _ (s t u : Stream) (bytes front rest : List ℕ) (is : bytes ≡ front ++ rest) (came : ComesOn front s t) (grew : Grows s t (length front)) where
  -- more of the bytes came
  pub more_came : (n : ℕ) → n ≤ length rest → ComesOn (take n rest) t u → Grows t u n
      → ComesOn (front ++ take n rest) s u × Grows s u (length (front ++ take n rest)) × (bytes ≡ (front ++ take n rest) ++ drop n rest)
  more_came n few comes grows = (
    comes_on s t u front (take n rest) came comes,
    subst (Grows s u) (sym (length-append front (take n rest) ∙ ap (λ k. length front + k) (length-take-le n rest few))) (grows_on s t u (length front) n grew grows),
    is ∙ (ap (λ l. front ++ l) (sym (take-append-drop n rest)) ∙ sym (append_assoc front (take n rest) (drop n rest))),
  )

  -- the rest is refused
  pub up_to : (fault : SendFault) → TakesUpTo t u rest fault → TakesUpTo s u bytes fault
  up_to fault h =
      let long : length bytes ≡ length front + length rest = ap length is ∙ length-append front rest in
      let taken : take (length front + h.n) bytes ≡ front ++ take h.n rest = ap (take (length front + h.n)) is ∙ take-append-add front rest h.n in
      record {
        n = length front + h.n;
        few = omega (arith, long, h.few);
        comes = subst (λ l. ComesOn l s u) (sym taken) (comes_on s t u front (take h.n rest) came h.comes);
        grows = grows_on s t u (length front) h.n grew h.grows;
        refuses = h.refuses;
        beyond = λ e. (let less = h.beyond e in omega (arith, long, less));
        goes_on = h.goes_on;
        none = h.none;
      }

-- ---- a data field is taken

-- a field that is taken before it is full is the last one
is_last : (closed : Bool) (n size : ℕ) → MatchBool closed (0 < n) (size ≤ n) → n < size → (closed ≡ true) × (0 < n)
is_last true n size ready short = (refl, ready)
is_last false n size ready short = absurd (omega (arith, ready, short))

not_empty : (closed : Bool) (n size : ℕ) → MatchBool closed (0 < n) (size ≤ n) → 0 < size → n ≡ 0 → ⊥
not_empty true n size ready some e = absurd (omega (arith, ready, e))
not_empty false n size ready some e = absurd (omega (arith, ready, some, e))

last_cut : (packets fields : List (List ℕ)) (S : Slicing) → IsReady S → length S.waiting < S.size → stream_of packets ≡ joined fields ++ S.waiting
    → All (λ f. length f ≡ S.size) fields → AreCut packets (fields ++ next_field S ∷ []) (after_field S)
last_cut packets fields S ready short whole full =
    let last = is_last S.closed (length S.waiting) S.size ready short in
    let all : next_field S ≡ S.waiting = take_all S.size S.waiting (omega (arith, short)) in
    inr (
      last.0,
      drop_all S.size S.waiting (omega (arith, short)),
      ap (λ x. fields ++ x ∷ []) all ∙ fields_are_and S.size fields S.waiting (stream_of packets) whole full last.1 short,
    )

cut_more : (packets fields : List (List ℕ)) (S : Slicing) → 188 < S.size → IsReady S → stream_of packets ≡ joined fields ++ S.waiting
    → AreCut packets fields S → AreCut packets (fields ++ next_field S ∷ []) (after_field S)
cut_more packets fields S large ready whole (inl full) = elim (cases_lt (length S.waiting) S.size) [
  | inl short ↦ last_cut packets fields S ready short whole full
  | inr enough ↦ inl (All-push (λ f. length f ≡ S.size) fields (next_field S) full (length-take-le S.size S.waiting enough))
]
cut_more packets fields S large ready whole (inr over) = absurd (not_empty S.closed (length S.waiting) S.size ready (omega (arith, large)) (ap length over.1))

pub gives_field : (s : Stream) (roll_off : ℕ) (S' : Slicing) (header : Header) → IsStream s → IsReady s.slicing → S' ≡ after_field s.slicing → TakesField roll_off s.slicing S' header
    → GivesField roll_off s (record { slicing = S'; held = s.held; packets = s.packets; fields = s.fields + 1; limit = s.limit }) header
gives_field s roll_off S' header sound ready after takes = λ bytes fields came.
    let more = takes came.packets fields came.sliced in (
      record {
        packets = came.packets;
        each_is_packet = came.each_is_packet;
        bytes_are = came.bytes_are;
        packet_count = came.packet_count;
        field_count = omega (arith, came.field_count, length_push fields (next_field s.slicing));
        sliced = more.0;
        are_cut = subst (AreCut came.packets (fields ++ next_field s.slicing ∷ [])) (sym after) (cut_more came.packets fields s.slicing sound.0.large ready came.sliced.whole came.are_cut);
      },
      more.1,
    )
