-- What a join has read and written after some frames, and where it stops.
use Rattle.std.proofs.Common.{◌≡◌, ℕ, ◌+◌, ◌*◌, ◌<◌, ◌≤◌, List, [], ◌∷◌, ◌++◌, All, Option, None, Some, length, take, map, refl, sym, ap, ap₂, subst, ◌∙◌, append-nil, length-append, length-take, arith}
use Rattle.std.specs.Prelude.{cond}
use Rattle.std.specs.Io.KnownBytes.{Appends, Consumes, IsAtEnd}
use Rattle.std.proofs.KnownBytes.{Appends-nil, Appends-trans, Consumes-nil, Consumes-trans}
use Rattle.std.proofs.lemmas.List.{map-append}
use Rattle.std.proofs.lemmas.List.Concat.{flat_map-append}
use Rattle.std.proofs.lemmas.List.Elements.{All-nil, All-push}
use Rattle.std.proofs.lemmas.List.Sums.{sum_by_push}
use Rattle.s2_mode.specs.Mode.{Mode}
use Rattle.s2_mode.specs.Pieces.{ConsumesPart, AppendsPart}
use Rattle.s2_bbframe.specs.Joining.{step, and_then, joining}
use Rattle.s2_bbframe.proofs.Events.{joining-append, joining-one}
use Rattle.s2_io.specs.Files.{piped}
use Rattle.s2_receive.specs.Laws.{joined}
use Rattle.s2_receive.specs.Receiving.{count_of}
use Rattle.s2_bbframe.specs.declared.header.Header.{Header}
use Rattle.s2_records.specs.declared.join_counts.Counts.{Counts}
use Rattle.s2_records.specs.declared.join_counts.FrameCounts.{FrameCounts}
use Rattle.s2_records.specs.Limits.{max_frames}
use Rattle.s2_records.specs.Frames.{frame_bytes, delivered_in, event_of, joined_from, frames_in, packets_in}
use Rattle.s2_records.specs.Counting.{is_delivered, counts_of, counts_by, counted, IsFew}
use Rattle.s2_records.specs.Joining.{JoinsAll, StopsReading, StopsWriting}
use Rattle.s2_records.proofs.CutLemmas.{IsWhole, joined-push, length_joined, frames_are, rest_is}

-- these whole frames were read, and their packets are written
pub record Progress (m : Mode) (taken : ℕ) (r r' w w' held : Option (List ℕ)) (counts : Counts) : Type 0 where
  pub frames : List (List ℕ)
  pub each : All (IsWhole (frame_bytes m)) frames
  pub number : length frames ≡ taken
  pub read : Consumes r r' (joined frames)
  pub written : Appends w w' (joined (joined_from m frames).good)
  pub held_is : held ≡ (joined_from m frames).held
  pub counts_are : counts ≡ counts_of m frames

pub begins : (m : Mode) (r w held : Option (List ℕ)) (counts : Counts) → held ≡ None → counts ≡ record { frames = 0; delivered = 0; packets = 0; bad = 0 } → Progress m 0 r r w w held counts
begins m r w held counts lost none = record {
  frames = [];
  each = All-nil (IsWhole (frame_bytes m));
  number = refl;
  read = Consumes-nil r;
  written = Appends-nil w;
  held_is = lost;
  counts_are = none;
}

-- ---- one frame more

joined_push : (m : Mode) (frames : List (List ℕ)) (frame : List ℕ) → joined_from m (frames ++ frame ∷ []) ≡ and_then (joined_from m frames) (step (joined_from m frames).held (event_of m frame))
joined_push m frames frame =
    ap (joining None) (map-append (event_of m) frames (frame ∷ []))
    ∙ joining-append (map (event_of m) frames) (event_of m frame ∷ []) None
    ∙ ap (and_then (joined_from m frames)) (joining-one (joined_from m frames).held (event_of m frame))

good_push : (m : Mode) (frames : List (List ℕ)) (frame : List ℕ) → joined (joined_from m (frames ++ frame ∷ [])).good ≡ joined (joined_from m frames).good ++ joined (step (joined_from m frames).held (event_of m frame)).good
good_push m frames frame =
    ap (λ j. joined j.good) (joined_push m frames frame) ∙ flat_map-append (λ packet. packet) (joined_from m frames).good (step (joined_from m frames).held (event_of m frame)).good

counts_once : (o : Option (Header × List ℕ)) → cond (is_delivered o) 1 0 ≡ count_of o
counts_once (Some pair) = refl
counts_once None = refl

abbrev made : ℕ → ℕ → ℕ → ℕ → Counts
made frames delivered packets bad = record { frames = frames; delivered = delivered; packets = packets; bad = bad }

counts_push : (m : Mode) (frames : List (List ℕ)) (frame : List ℕ) → counts_of m (frames ++ frame ∷ []) ≡ counted (counts_of m frames) (counts_by m (joined_from m frames).held frame)
counts_push m frames frame =
    let before = counts_of m frames in
    let one = counts_by m (joined_from m frames).held frame in
    let after = counts_of m (frames ++ frame ∷ []) in
    let total : after.frames ≡ before.frames + 1 = length-append frames (frame ∷ []) in
    let delivered : after.delivered ≡ before.delivered + one.delivered =
    sum_by_push (λ x. cond (is_delivered (delivered_in m x)) 1 0) frames frame ∙ ap (λ n. before.delivered + n) (counts_once (delivered_in m frame)) in
    let packets : after.packets ≡ before.packets + one.packets =
    ap (λ j. length j.good) (joined_push m frames frame) ∙ length-append (joined_from m frames).good (step (joined_from m frames).held (event_of m frame)).good in
    let bad : after.bad ≡ before.bad + one.bad = ap (λ j. j.bad) (joined_push m frames frame) in
    ap (λ n. made n after.delivered after.packets after.bad) total
    ∙ ap (λ n. made (before.frames + 1) n after.packets after.bad) delivered
    ∙ ap (λ n. made (before.frames + 1) (before.delivered + one.delivered) n after.bad) packets
    ∙ ap (λ n. made (before.frames + 1) (before.delivered + one.delivered) (before.packets + one.packets) n) bad

pub goes_on : (m : Mode) (taken : ℕ) (r r' r'' w w' w'' held held' : Option (List ℕ)) (counts counts' : Counts) (one : FrameCounts) (frame : List ℕ)
    → Progress m taken r r' w w' held counts → length frame ≡ frame_bytes m → Consumes r' r'' frame
    → held' ≡ (step held (event_of m frame)).held → Appends w' w'' (joined (step held (event_of m frame)).good)
    → one ≡ counts_by m held frame → counts' ≡ counted counts one
    → Progress m (taken + 1) r r'' w w'' held' counts'
goes_on m taken r r' r'' w w' w'' held held' counts counts' one frame p whole read next written one_is counted_is =
    let frames = p.frames in
    let h = (joined_from m frames).held in
    record {
      frames = frames ++ frame ∷ [];
      each = All-push (IsWhole (frame_bytes m)) frames frame p.each whole;
      number = length-append frames (frame ∷ []) ∙ ap (λ n. n + 1) p.number;
      read = subst (Consumes r r'') (sym (joined-push frames frame)) (Consumes-trans r r' r'' (joined frames) frame p.read read);
      written = subst (Appends w w'') (sym (good_push m frames frame))
          (Appends-trans w w' w'' (joined (joined_from m frames).good) (joined (step h (event_of m frame)).good) p.written
          (subst (λ x. Appends w' w'' (joined (step x (event_of m frame)).good)) p.held_is written));
      held_is = next ∙ ap (λ x. (step x (event_of m frame)).held) p.held_is ∙ ap (λ j. j.held) (sym (joined_push m frames frame));
      counts_are = counted_is ∙ ap (λ c. counted c one) p.counts_are
          ∙ ap (counted (counts_of m frames)) (one_is ∙ ap (λ x. counts_by m x frame) p.held_is) ∙ sym (counts_push m frames frame);
    }

-- the counts stay within what the frames can give
pub counted_more : (counts counts' : Counts) (one : FrameCounts) (taken : ℕ) → counts' ≡ counted counts one → IsFew one
    → counts.frames ≡ taken → counts.delivered ≤ taken → counts.packets + counts.bad ≤ 8191 * taken
    → (counts'.frames ≡ taken + 1) × (counts'.delivered ≤ taken + 1) × (counts'.packets + counts'.bad ≤ 8191 * (taken + 1))
counted_more counts counts' one taken is few frames delivered packets =
    let number : counts'.frames ≡ counts.frames + 1 = ap (λ x. x.frames) is in
    let accepted : counts'.delivered ≡ counts.delivered + one.delivered = ap (λ x. x.delivered) is in
    let good : counts'.packets ≡ counts.packets + one.packets = ap (λ x. x.packets) is in
    let wrong : counts'.bad ≡ counts.bad + one.bad = ap (λ x. x.bad) is in
    (omega (arith, number, frames), omega (arith, accepted, delivered, few.0), omega (arith, good, wrong, packets, few.1))

-- ---- the end, and where it stops

module _ (m : Mode) (taken : ℕ) (r r' r'' w w' held : Option (List ℕ)) (counts : Counts) (p : Progress m taken r r' w w' held counts) where
  cut_off : (rest : List ℕ) → length rest < frame_bytes m → frames_in m (joined p.frames ++ rest) ≡ p.frames
  cut_off rest short = frames_are (frame_bytes m) p.frames rest p.each short

  given : (rest : List ℕ) → length rest < frame_bytes m → Appends w w' (packets_in m (joined p.frames ++ rest))
  given rest short = subst (λ fs. Appends w w' (joined (joined_from m fs).good)) (sym (cut_off rest short)) p.written

  -- fewer bytes than a frame has were left
  pub finishes : (n : ℕ) (frame : List ℕ) (a a' b b' : ℕ) → length (take n frame) ≡ n → n < frame_bytes m → Consumes r' r'' (take n frame) → IsAtEnd r'' → taken < max_frames → b' ≡ b
      → JoinsAll m (piped r a w b) (piped r'' a' w' b') (record { counts = counts; cut = n })
  finishes n frame a a' b b' long short read end few kept =
      let rest = take n frame in
      let less : length rest < frame_bytes m = omega (arith, long, short) in
      record {
        bytes = joined p.frames ++ rest;
        read = Consumes-trans r r' r'' (joined p.frames) rest p.read read;
        all = end;
        few = omega (arith, ap length (cut_off rest less), p.number, few);
        written = given rest less;
        summary_is = ap₂ (λ (c : Counts) (n : ℕ). record { counts = c; cut = n }) (p.counts_are ∙ ap (counts_of m) (sym (cut_off rest less)))
            (sym long ∙ sym (rest_is (frame_bytes m) p.frames rest p.each less));
        no_write = kept;
      }

  -- a read failed within a frame
  pub stops_reading : (frame : List ℕ) (a a' b b' : ℕ) → length frame ≡ frame_bytes m → ConsumesPart frame r' r'' → a' ≡ a + 1 → b' ≡ b → StopsReading m (piped r a w b) (piped r'' a' w' b')
  stops_reading frame a a' b b' whole (k, few, read) rose kept =
      let rest = take k frame in
      let less : length rest < frame_bytes m = omega (arith, length-take k frame, few, whole) in
      record {
        bytes = joined p.frames ++ rest;
        read = Consumes-trans r r' r'' (joined p.frames) rest p.read read;
        written = given rest less;
        cause = λ other. absurd (other rose);
        no_write = kept;
      }

-- as many frames came as one join takes
pub stops_there : (m : Mode) (r r' w w' held : Option (List ℕ)) (counts : Counts) (taken a a' b b' : ℕ) → Progress m taken r r' w w' held counts → 0 < frame_bytes m → taken ≡ max_frames → a' ≡ a → b' ≡ b
    → StopsReading m (piped r a w b) (piped r' a' w' b')
stops_there m r r' w w' held counts taken a a' b b' p some most unread kept =
    record {
      bytes = joined p.frames;
      read = p.read;
      written = subst (λ bytes. Appends w w' (packets_in m bytes)) (append-nil (joined p.frames)) (given m taken r r' r' w w' held counts p [] some);
      cause = λ other. (unread, length_joined (frame_bytes m) p.frames p.each ∙ ap (λ n. n * frame_bytes m) (p.number ∙ most) ∙ omega arith);
      no_write = kept;
    }

-- a write of a frame's packets failed
pub stops_writing : (m : Mode) (taken : ℕ) (r r' r'' w w' w'' held : Option (List ℕ)) (counts : Counts) (frame : List ℕ) (a a' b b' : ℕ)
    → Progress m taken r r' w w' held counts → 0 < frame_bytes m → length frame ≡ frame_bytes m → Consumes r' r'' frame → AppendsPart (joined (step held (event_of m frame)).good) w' w'' → b' ≡ b + 1
    → StopsWriting m (piped r a w b) (piped r'' a' w'' b')
stops_writing m taken r r' r'' w w' w'' held counts frame a a' b b' p some whole read part rose =
    let frames = p.frames in
    let size = frame_bytes m in
    let bytes = joined frames in
    let all : (fs : List (List ℕ)) → All (IsWhole size) fs → frames_in m (joined fs) ≡ fs = λ fs each. ap (frames_in m) (sym (append-nil (joined fs))) ∙ frames_are size fs [] each some in
    let before = all frames p.each in
    let both : frames_in m (bytes ++ frame) ≡ frames ++ frame ∷ [] = ap (frames_in m) (sym (joined-push frames frame)) ∙ all (frames ++ frame ∷ []) (All-push (IsWhole (frame_bytes m)) frames frame p.each whole) in
    record {
      bytes = bytes;
      last = frame;
      added = joined (step (joined_from m frames).held (event_of m frame)).good;
      between = w';
      read = Consumes-trans r r' r'' bytes frame p.read read;
      whole = length_joined size frames p.each ∙ ap (λ fs. length fs * size) (sym before) ∙ omega arith;
      one = whole;
      adds = ap (λ fs. joined (joined_from m fs).good) both ∙ good_push m frames frame
          ∙ ap (λ fs. joined (joined_from m fs).good ++ joined (step (joined_from m frames).held (event_of m frame)).good) (sym before);
      written = subst (λ fs. Appends w w' (joined (joined_from m fs).good)) (sym before) p.written;
      part = subst (λ x. AppendsPart (joined (step x (event_of m frame)).good) w' w'') p.held_is part;
      failed = rose;
    }
