-- What is written of frames, one after another.
use Rattle.std.proofs.Common.{ℕ, List, [], ◌∷◌, Option, sym, ap, ◌∙◌, subst}
use Rattle.std.specs.List.{flat_map}
use Rattle.std.specs.Io.KnownBytes.{Appends}
use Rattle.std.proofs.KnownBytes.{Appends-nil, Appends-trans}
use Rattle.s2_records.specs.Laws.{RecordsLaw, BbframesLaw, records_of, bbframes_of}
use Rattle.s2_certfile.specs.Field.{bytes_of_bits}
use Rattle.s2_records.specs.Records.{bbframe_bytes}
use Rattle.s2_records.specs.Sent.{WordsLaw, SentLaw}

module _ {W : Type 0} (contents : W → Option (List ℕ)) where
  pub records_lem : RecordsLaw contents
  records_lem bytes old new [] same = subst (λ w. Appends (contents old) (contents w) []) (sym same) (Appends-nil (contents old))
  records_lem bytes old new (first ∷ later) (mid, here, rest) =
      Appends-trans (contents old) (contents mid) (contents new) (bytes first.1) (records_of bytes later) here (records_lem bytes mid new later rest)

  pub bbframes_lem : BbframesLaw contents
  bbframes_lem old new [] same =
      (ap (λ f. f.mode) same, subst (λ f. Appends (contents old.to) (contents f.to) []) (sym same) (Appends-nil (contents old.to)))
  bbframes_lem old new (first ∷ later) (mid, here, rest) =
      let next = bbframes_lem mid new later rest in
      let after : Appends (contents mid.to) (contents new.to) (bbframes_of old.mode later) = subst (λ m. Appends (contents mid.to) (contents new.to) (bbframes_of m later)) here.0 next.1 in
      (next.0 ∙ here.0, Appends-trans (contents old.to) (contents mid.to) (contents new.to) (bbframe_bytes old.mode first.0.after_gap first.1) (bbframes_of old.mode later) here.1 after)

  pub words_lem : WordsLaw contents
  words_lem old new [] same = subst (λ w. Appends (contents old) (contents w) []) (sym same) (Appends-nil (contents old))
  words_lem old new (first ∷ later) (mid, here, rest) =
      Appends-trans (contents old) (contents mid) (contents new) (bytes_of_bits first) (flat_map bytes_of_bits later) here (words_lem mid new later rest)

  pub sent_lem : SentLaw contents
  sent_lem bytes old new [] same =
      (ap (λ f. f.mode) same, subst (λ f. Appends (contents old.to) (contents f.to) []) (sym same) (Appends-nil (contents old.to)))
  sent_lem bytes old new (first ∷ later) (mid, here, rest) =
      let next = sent_lem bytes mid new later rest in
      let after : Appends (contents mid.to) (contents new.to) (flat_map (bytes old.mode) later) = subst (λ m. Appends (contents mid.to) (contents new.to) (flat_map (bytes m) later)) here.0 next.1 in
      (next.0 ∙ here.0, Appends-trans (contents old.to) (contents mid.to) (contents new.to) (bytes old.mode first) (flat_map (bytes old.mode) later) here.1 after)
