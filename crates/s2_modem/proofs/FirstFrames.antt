-- The first frames of a stream arrive, and one stream gives the same however it is read.
use Rattle.s2_modem.proofs.Names.{◌≡◌, Bool, true, false, ℕ, ◌+◌, ◌≤◌, inl, inr, List, [], ◌∷◌, length, refl, sym, ap, ◌∙◌, subst, Appends, Mode, IsMode, HasCodeSizes, Symbol, header_at, field_bytes, Rules, at_start, after_all, all_packets, all_lines, are_all_certified, Piece, coded, dummy, IsReceived, AreReceived, gives, front, same_met, IsDivisor, Tuning, Link, IsLinkOf, message_of, frame_decision, link_rules, IsDeliveredCertified, IsSent, IsWholeFrame, IsClear, IsHeard, AreEach, FirstFramesLaw, OneStreamLaw, DeliversAll}
use Rattle.s2_modem.proofs.CleanFrames.{is_mode, has_sizes, hears_frame, receives_all_law, scattered_law, both_codes_law}
use Rattle.s2_modem.proofs.ByteStreams.{IsField, AreFields, front_fields}
use Rattle.s2_modem.proofs.Arrival.{IsCertifiedFrame, AllCoded, called}

module _ (m : Mode) (valid : IsMode m) (sizes : HasCodeSizes m) (link : Link) (tuning : Tuning) (limit : ℕ) (linked : IsLinkOf m link) (ro : link.setup.roll_off ≤ 2) (known : IsDivisor tuning.divisor) where
  abbrev rules : Rules
  rules = link_rules link tuning limit

  -- what is decided of a frame that was sent
  pub clear_one : (behind : Bool) (at : ℕ) (field : List ℕ) (codeword : List Bool) (symbols : List Symbol) (sent : IsSent m link at field codeword) → IsClear link tuning behind codeword symbols
      → IsWholeFrame link tuning behind symbols × IsDeliveredCertified (frame_decision link tuning symbols) codeword (message_of link.setup.mode sent.codeword_is.bch_word) (header_at link.setup.roll_off at field) field
  clear_one behind at field codeword symbols sent (inl clean) =
      let h = hears_frame m valid sizes link linked ro tuning known limit at field codeword symbols sent.bytes sent.place sent.fits sent.codeword_is clean in
      let one = h.0 behind in
      ((one.0, one.1), h.1)
  clear_one behind at field codeword symbols sent (inr (whole, scattered)) = (whole, scattered_law m valid sizes link tuning symbols at field codeword sent scattered)

  pub heard_one : (behind : Bool) (at : ℕ) (field : List ℕ) (symbols : List Symbol) → IsField (field_bytes link.setup.mode) at field → IsHeard link tuning behind at field symbols
      → IsReceived rules behind (header_at link.setup.roll_off at field) field symbols × IsCertifiedFrame rules symbols
  heard_one behind at field symbols (bytes, place, fits) (codeword, is, clear) =
      let h = clear_one behind at field codeword symbols (record { linked = linked; roll_off = ro; bytes = bytes; place = place; fits = fits; codeword_is = is }) clear in
      ((h.0.0, h.0.1, h.1.delivered.delivered), record { verdict = h.1.verdict; outcome = h.1.delivered.outcome })

-- what is received and called so one by one is so all together
module _ (holds : Bool → ℕ → List ℕ → List Symbol → Type 0) (called_so : List Symbol → Type 0) (by : Rules) (roll_off size : ℕ)
    (one : (behind : Bool) (at : ℕ) (field : List ℕ) (symbols : List Symbol) → IsField size at field → holds behind at field symbols → IsReceived by behind (header_at roll_off at field) field symbols × called_so symbols) where
  pub received_each : (behind : Bool) (at : ℕ) (pieces : List Piece) (fields : List (List ℕ)) → AreFields size at fields → AreEach holds by.finds behind at pieces fields
      → AreReceived by roll_off behind at pieces fields × AllCoded called_so pieces
  received_each behind at [] [] each h = (tt, tt)
  received_each behind at [] (f ∷ fs) each h = absurd h
  received_each behind at (coded s ∷ ps) [] each h = absurd h
  received_each behind at (coded s ∷ ps) (f ∷ fs) each h =
      let here = one behind at f s each.0 h.0 in
      let more = received_each true (at + length f) ps fs each.1 h.1 in
      ((here.0, more.0), (here.1, more.1))
  received_each behind at (dummy s ∷ ps) fs each h =
      let more = received_each true at ps fs each h.1 in
      ((h.0, more.0), more.1)

-- and so of each such frame of the link
pub delivers_all : (m : Mode) → IsMode m → HasCodeSizes m → (link : Link) (tuning : Tuning) → IsLinkOf m link → link.setup.roll_off ≤ 2 → IsDivisor tuning.divisor → DeliversAll link tuning
delivers_all m valid sizes link tuning linked ro known =
    let valid' = is_mode m valid sizes link linked in
    let sizes' = has_sizes m valid sizes link linked in
    record { clear = clear_one link.setup.mode valid' sizes' link tuning 0 (refl, linked.1) ro known; corrected = both_codes_law link.setup.mode valid' sizes' link tuning }

pub first_frames_law : (m : Mode) → IsMode m → HasCodeSizes m → FirstFramesLaw m
first_frames_law m valid sizes = λ link tuning limit packets fields later pieces rest mid before behind met linked ro known each are_bytes cut_so heard spelt count processed.
    let size = field_bytes link.setup.mode in
    let rules = link_rules link tuning limit in
    let receives_all = receives_all_law m valid sizes link tuning limit linked ro known in
    let are_fields = front_fields size packets fields later receives_all.field_least each are_bytes cut_so in
    let h = received_each (IsHeard link tuning) (IsCertifiedFrame rules) rules link.setup.roll_off size (heard_one m valid sizes link tuning limit linked ro known) false 0 pieces fields are_fields heard in
    let f = front rules link.setup.roll_off size packets fields later pieces rest mid before behind met receives_all.least receives_all.field_least each cut_so h.0 spelt count processed in
    let lines = called rules 0 pieces at_start h.1 in
    record {
      written = f.1;
      lines = subst (Appends before.out behind.out) (ap (all_lines rules at_start) f.0 ∙ lines.0) processed.lines;
      certified = lines.1;
      all = (gives rules link.setup.roll_off size packets fields later pieces rest receives_all.least receives_all.field_least each cut_so h.0).all;
    }

pub one_stream_law : OneStreamLaw
one_stream_law link tuning limit old first second symbols before behind other_before other_behind certified other_certified spelt other_spelt a b =
    let rules = link_rules link tuning limit in
    let (met, one) = a.runs_out.1 in
    let two = b.runs_out.1.1 in
    let same : b.runs_out.1.0 ≡ met =
    same_met rules old first second symbols before.taken other_before.taken behind.taken other_behind.taken met b.runs_out.1.0 spelt other_spelt a.runs_out.0 b.runs_out.0 one.left two.left in
    record {
      totals = ap (λ s. s.totals) (one.standing ∙ ap (after_all rules old.standing) (sym same) ∙ sym two.standing);
      answer = a.certified_is ∙ ap (are_all_certified rules old.standing) (sym same) ∙ sym b.certified_is;
      packets = (all_packets rules old.standing met, one.packets, subst (λ l. Appends other_before.given other_behind.given (all_packets rules old.standing l)) same two.packets);
      lines = (all_lines rules old.standing met, one.lines, subst (λ l. Appends other_before.out other_behind.out (all_lines rules old.standing l)) same two.lines);
    }
