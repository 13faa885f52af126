-- Decisions that are borne out.
use Rattle.std.proofs.Common.{◌≡◌, ◌∙◌, ℕ, ℤ, Bool, true, false, if◌then◌else◌, List, [], ◌∷◌, length, arith, Option, Some, None, Result, Ok, Err, refl, sym, ap, subst, inl, inr, IfSome}
use Rattle.s2_mode.specs.Mode.{Mode, n_of}
use Rattle.s2_mode.specs.declared.symbols.Symbol.{Symbol}
use Rattle.s2_rows.specs.Rows.{Rows}
use Rattle.s2_certfile.specs.File.{File}
use Rattle.s2_certfile.specs.Format.{file_of_bytes}
use Rattle.s2_certfile.specs.declared.fault.CertFault.{CertFault}
use Rattle.s2_check.specs.CertificateFiles.{Suits, view_of}
use Rattle.s2_check.specs.Cost.{cost}
use Rattle.s2_check.specs.Views.{View}
use Rattle.s2_check.specs.declared.verdict.Verdict.{Verdict}
use Rattle.s2_bch.specs.Decoding.{nearest}
use Rattle.s2_report.specs.Entries.{rounds_in, words_of}
use Rattle.s2_report.specs.declared.report.Step.{Step}
use Rattle.s2_receive.specs.Halves.{Follower}
use Rattle.s2_receive.specs.Receiving.{Decision}
use Rattle.s2_receive.specs.declared.window.Next.{Next}
use Rattle.s2_message.specs.Decisions.{decision_on, levelled_frame, received_word, removed_frame, soft_frame, word_decision}
use Rattle.s2_message.specs.Figures.{figures_of}
use Rattle.s2_replay.specs.Certificates.{Certifies, IsParityVerdict, Shows, ShowsParsed}
use Rattle.s2_replay.specs.Frames.{AuditsFrame, ComparesLine, HasRounds, SettlesBy, cost_of}
use Rattle.s2_replay.specs.Replay.{IsBorneOut, IsBorneOutBy, Terms, are_known, is_known}
use Rattle.s2_replay.specs.declared.certificates.Shown.TheVariants.{Word}
use Rattle.s2_replay.specs.declared.frames.Audited.{Audited}
use Rattle.s2_replay.specs.declared.frames.Audited.TheVariants.{Told, Differs, Refused}

-- the bits of a codeword are known
abbrev size_of : Bool → ℕ
size_of short = if short then 16200 else 64800

no_bit : (short : Bool) → length {A = Bool} [] ≡ size_of short → ⊥
no_bit true none = absurd (omega (arith, none))
no_bit false none = absurd (omega (arith, none))

known_bits : (m : Mode) (bits : List Bool) → length bits ≡ n_of m → are_known bits ≡ true
unfolding n_of
known_bits m [] long = absurd (no_bit m.short long)
known_bits m (bit ∷ bits) long = refl

-- the verdict, the bits and the certificate of a decision are those by which it was made
made_by : (m : Mode) (soft : List ℤ) (verdict : Verdict) (bits : List Bool) (certificate : Option View) (x : Option (List Bool))
    → ((word_decision m soft verdict bits certificate x).verdict ≡ verdict) × ((word_decision m soft verdict bits certificate x).bits ≡ bits) × ((word_decision m soft verdict bits certificate x).certificate ≡ certificate)
made_by m soft verdict bits certificate (Some w) = (refl, refl, refl)
made_by m soft verdict bits certificate None = (refl, refl, refl)

module _ (t : Terms) (symbols : List Symbol) (verdict : Verdict) (bits : List Bool) (rounds : ℕ) where
  abbrev soft : List ℤ
  soft = soft_frame t.mode t.number t.options symbols

  module _ (certificate : Option View) where
    abbrev made : Decision
    made = decision_on t.mode t.number t.options symbols verdict bits certificate rounds

    parts : (made.verdict ≡ verdict) × (made.bits ≡ bits) × (made.certificate ≡ certificate)
    parts = made_by t.mode soft verdict bits certificate (nearest t.mode (received_word t.mode bits))

    is_on : made ≡ decision_on t.mode t.number t.options symbols made.verdict made.bits made.certificate rounds
    is_on = sym (λ i. decision_on t.mode t.number t.options symbols (parts.0 i) (parts.1 i) (parts.2 i) rounds)

    pub verdict_is : made.verdict ≡ verdict
    verdict_is = parts.0

    pub bits_is : made.bits ≡ bits
    bits_is = parts.1

    pub known_is : length bits ≡ n_of t.mode → is_known made ≡ true
    known_is long = ap are_known parts.1 ∙ known_bits t.mode bits long

    pub certificate_is : made.certificate ≡ certificate
    certificate_is = parts.2

    pub rounds_is : (line : List ℕ) → rounds ≡ rounds_in (words_of line) → HasRounds made line
    unfolding figures_of
    rounds_is line is = by t.options.figures
      where
        by : (b : Bool) → IfSome (if b then Some (figures_of t.mode t.number (levelled_frame t.mode t.number t.options symbols) (removed_frame t.mode t.number t.options symbols) soft bits rounds) else None) (λ f. f.rounds ≡ rounds_in (words_of line))
        by true = is
        by false = tt

  -- by a certificate
  pub borne_certified : (view : View) → Certifies t.rows soft verdict bits view → IsBorneOut t symbols (made (Some view))
  borne_certified view certifies =
      let d = made (Some view) in
      let p = parts (Some view) in
      let one = subst (λ v. Certifies t.rows soft v bits view) (sym p.0) certifies in
      let two = subst (λ b. Certifies t.rows soft d.verdict b view) (sym p.1) one in
      subst (λ c. IsBorneOutBy t symbols d c) (sym p.2) ((rounds, is_on (Some view)), two)

  -- by its parity checks
  pub borne_recorded : IsParityVerdict t.rows bits verdict → IsBorneOut t symbols (made None)
  borne_recorded is =
      let d = made None in
      let p = parts None in
      let one = subst (λ v. IsParityVerdict t.rows bits v) (sym p.0) is in
      let two = subst (λ b. IsParityVerdict t.rows b d.verdict) (sym p.1) one in
      subst (λ c. IsBorneOutBy t symbols d c) (sym p.2) (inl ((rounds, is_on None), two))

-- the bytes of a certificate that shows a verdict on bits
pub shown_block : (rows : Rows) (soft : List ℤ) (bits : List Bool) (block : List ℕ) (verdict : Verdict) (paid : ℤ) → Shows rows soft bits block (Word verdict paid)
    → (file : File) × (file_of_bytes block ≡ Ok file) × Suits rows file × (Certifies rows soft verdict bits (view_of rows file) × (paid ≡ cost (view_of rows file).soft (view_of rows file).bits))
shown_block rows soft bits block verdict paid shows = parsed (file_of_bytes block) refl shows
  where
    parsed : (r : Result File CertFault) → file_of_bytes block ≡ r → ShowsParsed rows soft bits r (Word verdict paid) → (file : File) × (file_of_bytes block ≡ Ok file) × Suits rows file × (Certifies rows soft verdict bits (view_of rows file) × (paid ≡ cost (view_of rows file).soft (view_of rows file).bits))
    parsed (Ok file) is (inl (suits, (certifies, cost_is))) = (file, is, suits, (certifies, cost_is))
    parsed (Ok file) is (inr (other, none)) = absurd (cc)
    parsed (Err fault) is none = absurd (cc)

-- the line of a frame that was settled by such a decision
pub audits_so : (t : Terms) (old new : Follower) (found : Next) (block : Option (List ℕ)) (values : List ℤ) (word : List Bool) (line : List ℕ) (d : Decision) (step : Step) (verdict : Verdict) (paid : Option ℤ) (audited : Audited)
    → SettlesBy t old new found block line d step → d.verdict ≡ verdict → d.bits ≡ word → paid ≡ cost_of d.certificate → ComparesLine new step line verdict paid audited → AuditsFrame t old new found block values word line audited
audits_so t old new found block values word line d step verdict paid (Told v c) settles is bits cost_is (own, v_is, c_is) = (d, step, settles, (is ∙ sym v_is, bits, c_is ∙ cost_is), own)
audits_so t old new found block values word line d step verdict paid (Differs s) settles is bits cost_is (s_is, other) = subst (λ x. AuditsFrame t old new found block values word line (Differs x)) (sym s_is) (d, settles, bits, other)
audits_so t old new found (Some b) values word line d step verdict paid (Refused r) settles is bits cost_is none = absurd none
audits_so t old new found None values word line d step verdict paid (Refused r) settles is bits cost_is none = absurd none
