-- What a report that is the receiver's own goes on with.
use Rattle.std.proofs.Common.{IfSome, ◌≡◌, ◌∙◌, ℕ, ℤ, take, Bool, true, false, if◌then◌else◌, List, [], ◌∷◌, ◌++◌, append-nil, Some, None, Ok, refl, sym, ap, ap₂, subst, inl, inr}
use Rattle.s2_mode.specs.Limits.{header_symbols}
use Rattle.s2_mode.specs.Symbols.{symbols_of}
use Rattle.s2_mode.specs.declared.symbols.Symbol.{Symbol}
use Rattle.s2_rows.specs.Rows.{Rows}
use Rattle.s2_certfile.specs.File.{File}
use Rattle.s2_certfile.specs.Format.{file_of_bytes}
use Rattle.s2_check.specs.CertificateFiles.{Suits, view_of}
use Rattle.s2_check.specs.Verdicts.{is_certified}
use Rattle.s2_check.specs.Views.{View}
use Rattle.s2_check.specs.declared.verdict.Verdict.{Verdict}
use Rattle.s2_report.specs.Entries.{rounds_in, words_of}
use Rattle.s2_report.specs.ReportLines.{step_line}
use Rattle.s2_receive.proofs.RunsSoFar.{decided_so}
use Rattle.s2_receive.specs.Halves.{Follower, GoesOnFrom, IsRunBy, RunsBy, ahead, deciding}
use Rattle.s2_receive.specs.Receiving.{Decision, Standing}
use Rattle.s2_receive.specs.declared.window.Next.{Next}
use Rattle.s2_receive.specs.declared.window.Next.TheVariants as next
use Rattle.s2_message.specs.Decisions.{bits_decision, decision_on, figures_with, levelled_frame, measured, quarters, removed_frame, soft_frame}
use Rattle.s2_message.specs.Figures.{figures_of}
use Rattle.s2_message.specs.Header.{energy_of}
use Rattle.s2_replay.specs.Certificates.{Certifies, IsCertifiedVerdict, IsParityVerdict, ShowsParsed, ShowsFile}
use Rattle.s2_replay.specs.Expected.{CertifiedLaw, ExpectsLastLaw, ExpectsLaw, ExpectsNext, RefusedLaw, SameDecisionLaw, SameWordLaw, SettledLaw}
use Rattle.s2_replay.specs.Frames.{HasRounds}
use Rattle.s2_replay.specs.Replay.{AreLines, IsBorneOut, IsBorneOutBy, IsClaimed, IsDecisionOn, IsEndLine, IsFrameLine, Terms, is_known, rules_for}
use Rattle.s2_replay.specs.Running.{IsBy, RanTo}
use Rattle.s2_replay.specs.declared.certificates.Refusal.{Refusal}
use Rattle.s2_replay.specs.declared.certificates.Refusal.TheVariants as refusals
use Rattle.s2_replay.specs.declared.certificates.Shown.TheVariants as shown
use Rattle.s2_replay.proofs.RunLemmas.{last_may, rules_are}

-- ---- what comes next

-- a run over a recording goes on from where it has come
module _ (t : Terms) (recording left : List ℕ) (f : Follower) (by : IsBy t f) where
  run_on : (decisions more : List Decision) (own all_lines : List (List ℕ)) (packets given : List ℕ) → RanTo t recording left f decisions own packets
      → IsRunBy (IsBorneOut t) (rules_for t) (symbols_of recording) (decisions ++ more) all_lines given
      → GoesOnFrom (IsBorneOut t) (rules_for t) (symbols_of recording) (symbols_of left) f own packets more all_lines given
  run_on decisions more own all_lines packets given ran run =
      let coming = symbols_of left in
      let all = subst (λ x. IsRunBy (IsBorneOut t) (rules_for t) x (decisions ++ more) all_lines given) ran.all run in
      let there = subst (λ x. IsRunBy (IsBorneOut t) x (ran.taken ++ coming) (decisions ++ more) all_lines given) (sym (rules_are t f by)) all in
      let on = ran.run.only coming (last_may ran.on left ran.ended) more all_lines given there in
      subst (λ x. GoesOnFrom (IsBorneOut t) (rules_for t) x coming f own packets more all_lines given) (sym ran.all)
      (subst (λ x. GoesOnFrom (IsBorneOut t) x (ran.taken ++ coming) coming f own packets more all_lines given) (rules_are t f by) on)

-- what a run goes on with, and its lines in a report, are those of what was found
module _ (t : Terms) (recording coming : List Symbol) (f : Follower) (known : Bool) where
  abbrev Runs : Next → List Decision → List (List ℕ) → List ℕ → Type 0
  Runs found more own rest = RunsBy (IsBorneOut t) (rules_for t) recording f.state.standing (ahead (rules_for t) f (Some found) coming) more own rest

  next_line : (found : Next) (more : List Decision) (own lines : List (List ℕ)) (rest : List ℕ) → Runs found more own rest → AreLines known more own lines → ExpectsNext t f found known more lines rest
  next_line (next.Frame at skipped) [] own lines rest runs are = absurd runs
  next_line (next.Frame at skipped) (d ∷ more) [] lines rest runs are = absurd runs
  next_line (next.Frame at skipped) (d ∷ more) (x ∷ own) [] rest runs are = absurd are
  next_line (next.Frame at skipped) (d ∷ more) (x ∷ own) (y ∷ lines) rest (borne, is, (later, packets_are, runs)) (line, are) =
      (borne, subst (λ l. IsFrameLine (is_known d) d l y) is line, (later, packets_are))
  next_line (next.Cut at skipped count) more [] lines rest runs are = absurd runs
  next_line (next.Cut at skipped count) more (x ∷ []) lines rest (is, runs) are = absurd runs
  next_line (next.Cut at skipped count) more (x ∷ z ∷ w ∷ own) lines rest (is, (ends, runs)) are = absurd runs
  next_line (next.Cut at skipped count) (d ∷ more) (x ∷ z ∷ []) lines rest (is, (ends, (no_more, nothing))) are = absurd (cc)
  next_line (next.Cut at skipped count) [] (x ∷ z ∷ []) [] rest runs are = absurd are
  next_line (next.Cut at skipped count) [] (x ∷ z ∷ []) (y ∷ []) rest runs are = absurd are.1
  next_line (next.Cut at skipped count) [] (x ∷ z ∷ []) (y ∷ last ∷ []) rest (is, (ends, (no_more, nothing))) are = (sym is ∙ are.0, nothing)
  next_line (next.Cut at skipped count) [] (x ∷ z ∷ []) (y ∷ last ∷ l ∷ lines) rest runs are = absurd are.1.1
  next_line (next.End at skipped) more [] lines rest runs are = absurd runs
  next_line (next.End at skipped) more (x ∷ z ∷ own) lines rest (is, runs) are = absurd runs
  next_line (next.End at skipped) (d ∷ more) (x ∷ []) lines rest (is, (no_more, nothing)) are = absurd (cc)
  next_line (next.End at skipped) [] (x ∷ []) [] rest runs are = absurd are
  next_line (next.End at skipped) [] (x ∷ []) (y ∷ []) rest (is, (no_more, nothing)) are = (subst (λ l. IsEndLine known l y) is are, nothing)
  next_line (next.End at skipped) [] (x ∷ []) (y ∷ l ∷ lines) rest runs are = absurd are.1

  -- such a run has a line
  has_line : (found : Next) (more : List Decision) (own : List (List ℕ)) (rest : List ℕ) → Runs found more own rest → (x : List ℕ) × (xs : List (List ℕ)) × (own ≡ x ∷ xs)
  has_line found more (x ∷ xs) rest runs = (x, xs, refl)
  has_line (next.Frame at skipped) [] [] rest runs = absurd runs
  has_line (next.Frame at skipped) (d ∷ more) [] rest runs = absurd runs
  has_line (next.Cut at skipped count) more [] rest runs = absurd runs
  has_line (next.End at skipped) more [] rest runs = absurd runs

pub expects : ExpectsLaw
expects t recording left f known decisions lines packets found by is before more later given (own, run, are) =
    let on = run_on t recording left f by decisions more before.own own packets given before.ran run in
    let runs = subst (λ n. RunsBy (IsBorneOut t) (rules_for t) (symbols_of recording) f.state.standing (ahead (rules_for t) f n (symbols_of left)) more on.later on.rest) is on.runs in
    let told = (before.told more on.later later).1 (subst (λ x. AreLines true (decisions ++ more) x (lines ++ later)) on.lines_are are) in
    (on.rest, on.packets_are, next_line t (symbols_of recording) (symbols_of left) f known found more on.later later on.rest runs told)

pub expects_last : ExpectsLastLaw
expects_last t recording left f known decisions lines packets found by is before line later given (own, run, are) =
    let all = subst (λ x. IsRunBy (IsBorneOut t) (rules_for t) (symbols_of recording) x own given) (sym (append-nil decisions)) run in
    let on = run_on t recording left f by decisions [] before.own own packets given before.ran all in
    let runs = subst (λ n. RunsBy (IsBorneOut t) (rules_for t) (symbols_of recording) f.state.standing (ahead (rules_for t) f n (symbols_of left)) [] on.later on.rest) is on.runs in
    let (x, xs, there) = has_line t (symbols_of recording) (symbols_of left) f known found [] on.later on.rest runs in
    let told = (before.told x xs line later).1 (subst (λ l. AreLines true decisions l (lines ++ line ∷ later)) (on.lines_are ∙ ap (λ l. before.own ++ l) there) are) in
    (on.rest, on.packets_are, next_line t (symbols_of recording) (symbols_of left) f known found [] on.later (line ∷ later) on.rest runs (subst (λ l. AreLines known [] l (line ∷ later)) (sym there) told))

pub settled : SettledLaw
settled t old new found d step settles =
    let handles = settles.handles (deciding (rules_for t) d) old.frame (decided_so (rules_for t) found old.frame d) in
    (ap₂ step_line handles.step_is (ap (λ (s : Standing). s.totals) handles.standing), handles.packets_are)

-- ---- the decision on a frame

-- with a certificate
certified_by : (rows : Rows) (view : View) (verdict : Verdict) → IsCertifiedVerdict rows view verdict → is_certified verdict ≡ true
certified_by rows view verdict (inl (strict, is)) = ap is_certified is
certified_by rows view verdict (inr (other, is)) = ap is_certified is

uncertified_by : (t : Terms) (symbols : List Symbol) (d : Decision) → IsBorneOutBy t symbols d None → is_certified d.verdict ≡ false
uncertified_by t symbols d (inl (on, inl (codeword, is))) = ap is_certified is
uncertified_by t symbols d (inl (on, inr (other, is))) = ap is_certified is
uncertified_by t symbols d (inr claimed) = claimed.0

pub certified : CertifiedLaw
certified t symbols d (Some block) borne (file, read, suits, is) = certified_by t.rows _ d.verdict (subst (IsBorneOutBy t symbols d) is borne).1.verdict_is
certified t symbols d None borne is = uncertified_by t symbols d (subst (IsBorneOutBy t symbols d) is borne)

-- a certificate has one verdict, and so have bits
same_certified : (rows : Rows) (view : View) (v w : Verdict) → IsCertifiedVerdict rows view v → IsCertifiedVerdict rows view w → v ≡ w
same_certified rows view v w (inl (strict, is)) (inl (strict', is')) = is ∙ sym is'
same_certified rows view v w (inl (strict, is)) (inr (other, is')) = absurd (other strict)
same_certified rows view v w (inr (other, is)) (inl (strict, is')) = absurd (other strict)
same_certified rows view v w (inr (other, is)) (inr (other', is')) = is ∙ sym is'

same_parity : (rows : Rows) (bits : List Bool) (v w : Verdict) → IsParityVerdict rows bits v → IsParityVerdict rows bits w → v ≡ w
same_parity rows bits v w (inl (codeword, is)) (inl (codeword', is')) = is ∙ sym is'
same_parity rows bits v w (inl (codeword, is)) (inr (other, is')) = absurd (other codeword)
same_parity rows bits v w (inr (other, is)) (inl (codeword, is')) = absurd (other codeword)
same_parity rows bits v w (inr (other, is)) (inr (other', is')) = is ∙ sym is'

-- known bits are not taken on the report's word
not_claimed : (d : Decision) → is_known d ≡ true → IsClaimed d → ⊥
not_claimed d known claimed = let never : true ≡ false = sym known ∙ ap (λ (x : Decision). is_known x) claimed.1 in absurd (cc)

module _ (t : Terms) (symbols : List Symbol) where
  abbrev soft : List ℤ
  soft = soft_frame t.mode t.number t.options symbols

  -- the figures have the same rounds
  same_figures : (b : Bool) (bits : List Bool) (r s n : ℕ) → IfSome (if b then Some (figures_of t.mode t.number (levelled_frame t.mode t.number t.options symbols) (removed_frame t.mode t.number t.options symbols) soft bits r) else None) (λ f. f.rounds ≡ n)
      → IfSome (if b then Some (figures_of t.mode t.number (levelled_frame t.mode t.number t.options symbols) (removed_frame t.mode t.number t.options symbols) soft bits s) else None) (λ f. f.rounds ≡ n)
      → (if b then Some (figures_of t.mode t.number (levelled_frame t.mode t.number t.options symbols) (removed_frame t.mode t.number t.options symbols) soft bits r) else None) ≡ (if b then Some (figures_of t.mode t.number (levelled_frame t.mode t.number t.options symbols) (removed_frame t.mode t.number t.options symbols) soft bits s) else None)
  unfolding figures_of
  same_figures true bits r s n h h' = ap (λ k. Some (figures_of t.mode t.number (levelled_frame t.mode t.number t.options symbols) (removed_frame t.mode t.number t.options symbols) soft bits k)) (h ∙ sym h')
  same_figures false bits r s n h h' = refl

  module _ (line : List ℕ) (d e : Decision) (has : HasRounds d line) (has' : HasRounds e line) where
    same_made : IsDecisionOn t symbols d → IsDecisionOn t symbols e → d.verdict ≡ e.verdict → d.bits ≡ e.bits → d.certificate ≡ e.certificate → d ≡ e
    same_made (rounds, made) (rounds', made') same_verdict same_bits same_certificate =
        let said = rounds_in (words_of line) in
        let parts : decision_on t.mode t.number t.options symbols d.verdict d.bits d.certificate rounds ≡ decision_on t.mode t.number t.options symbols e.verdict e.bits e.certificate rounds =
        λ i. decision_on t.mode t.number t.options symbols (same_verdict i) (same_bits i) (same_certificate i) rounds in
        let here = subst (λ f. IfSome f (λ x. x.rounds ≡ said)) (ap (λ (x : Decision). x.figures) (made ∙ parts)) has in
        let there = subst (λ f. IfSome f (λ x. x.rounds ≡ said)) (ap (λ (x : Decision). x.figures) made') has' in
        let figures : figures_with t.mode t.number t.options symbols soft e.bits rounds ≡ figures_with t.mode t.number t.options symbols soft e.bits rounds' = same_figures t.options.figures e.bits rounds rounds' said here there in
        made ∙ parts ∙ ap (λ x. measured (bits_decision t.mode soft e.verdict e.bits e.certificate) x (energy_of (take header_symbols symbols)) (quarters t.mode t.options symbols)) figures ∙ sym made'

    same_bare : is_known d ≡ true → is_known e ≡ true → d.bits ≡ e.bits → d.certificate ≡ e.certificate → IsBorneOutBy t symbols d None → IsBorneOutBy t symbols e None → d ≡ e
    same_bare known known' same_bits same (inl (made, parity)) (inl (made', parity')) =
        same_made made made' (same_parity t.rows e.bits d.verdict e.verdict (subst (λ b. IsParityVerdict t.rows b d.verdict) same_bits parity) parity') same_bits same
    same_bare known known' same_bits same (inl made) (inr claimed) = absurd (not_claimed e known' claimed)
    same_bare known known' same_bits same (inr claimed) borne = absurd (not_claimed d known claimed)

    same_shown : (view : View) → d.certificate ≡ Some view → e.certificate ≡ Some view → IsBorneOut t symbols d → IsBorneOut t symbols e → d ≡ e
    same_shown view is is' borne borne' =
        let (made, by) = subst (IsBorneOutBy t symbols d) is borne in
        let (made', by') = subst (IsBorneOutBy t symbols e) is' borne' in
        same_made made made' (same_certified t.rows view d.verdict e.verdict by.verdict_is by'.verdict_is) (sym by.bits_are ∙ by'.bits_are) (is ∙ sym is')

-- the same bytes are the same certificate
same_file : (block : List ℕ) (file other : File) → file_of_bytes block ≡ Ok file → file_of_bytes block ≡ Ok other → file ≡ other
same_file block file other read read' = let both : Ok file ≡ Ok other = sym read ∙ read' in cc

pub same_decision : SameDecisionLaw
same_decision t symbols d e (Some block) line borne borne' has has' (file, read, suits, is) (other, read', suits', is') bare =
    same_shown t symbols line d e has has' (view_of t.rows file) is (is' ∙ ap (λ x. Some (view_of t.rows x)) (sym (same_file block file other read read'))) borne borne'
same_decision t symbols d e None line borne borne' has has' is is' bare =
    let (known, known', same_bits) = bare refl in
    same_bare t symbols line d e has has' known known' same_bits (is ∙ sym is') (subst (IsBorneOutBy t symbols d) is borne) (subst (IsBorneOutBy t symbols e) is' borne')

pub same_word : SameWordLaw
same_word t symbols d e block borne borne' (file, read, suits, is) (other, read', suits', is') =
    let same : e.certificate ≡ Some (view_of t.rows file) = is' ∙ ap (λ x. Some (view_of t.rows x)) (sym (same_file block file other read read')) in
    sym (subst (IsBorneOutBy t symbols d) is borne).1.bits_are ∙ (subst (IsBorneOutBy t symbols e) same borne').1.bits_are

-- an accepted certificate is not refused
not_refused : (rows : Rows) (values : List ℤ) (bits : List Bool) (verdict : Verdict) (file : File) (refusal : Refusal) → Suits rows file → Certifies rows values verdict bits (view_of rows file) → ShowsFile rows values [] file (shown.Refused refusal) → ⊥
not_refused rows values bits verdict file refusals.OtherValues suits certifies (inl (suits', other)) = other certifies.values
not_refused rows values bits verdict file refusals.NotAccepted suits certifies (inl (suits', (same, other))) = other certifies.accepted
not_refused rows values bits verdict file refusal suits certifies (inr (other, is)) = other suits

pub refused : RefusedLaw
refused t symbols d block refusal borne (file, read, suits, is) shows =
    let values = soft_frame t.mode t.number t.options symbols in
    let certifies = (subst (IsBorneOutBy t symbols d) is borne).1 in
    not_refused t.rows values d.bits d.verdict file refusal suits certifies (subst (λ r. ShowsParsed t.rows values [] r (shown.Refused refusal)) read shows)
