-- Certificates that are found for codewords.
use Rattle.std.proofs.Common.{◌≡◌, ◌≢◌, ◌↔◌, IsTrue, ℕ, ◌<◌, ◌==◌, Bool, true, false, cond, List, ℤ, pos, ◌≤ℤ◌, Option, None, Some, IfSome, inl, inr, refl, sym, ap, subst, ◌∙◌}
use Rattle.std.proofs.lemmas.Bool.{cases_Bool, both_ways}
use Rattle.s2_rows.specs.Rows.{Rows}
use Rattle.s2_matrix.specs.Code.{code_of, IsCodeword}
use Rattle.s2_check.specs.Views.{View}
use Rattle.s2_check.specs.Checking.{IsCertificate}
use Rattle.s2_check.specs.Moves.{in_favour, placed_of}
use Rattle.s2_check.proofs.BoundListed.{rest_listed}
use Rattle.s2_check.specs.Strict.{IsStrict}
use Rattle.s2_split.specs.Scattered.{repaired, IsScattered}
use Rattle.s2_split.specs.Making.{Making, Shared, AreLeft, AreSome, HoldsRests, shared, shared_view, shared_views, made_view, greedy_view}
use Rattle.s2_split.specs.Spreading.{made_split, greedy_split}
use Rattle.s2_split.proofs.Accepted.{made_certificate, greedy_certificate, scattered_view, scattered_greedy}
use Rattle.s2_settle.specs.Settled.{settled}
use Rattle.s2_settle.specs.Holding.{Settling, view_by as view_settled}
use Rattle.s2_settle.proofs.SettledViews.{settled_lem}
use Rattle.s2_judge.specs.Deciding.{is_strict, IsCertificateOf, or_else, view_for, decoded_view}
use Rattle.s2_judge.specs.Certifying.{Certifying, settled_shares}
use Rattle.s2_settle.proofs.StrictTests.{strict_test, strict_is}

-- with passes or without
pub without_passes : (r : Rows) (passes : ℕ) (soft : List ℤ) (bits : List Bool) → (passes == 0) ≡ true → view_for r passes soft bits ≡ made_view r soft bits
without_passes r passes soft bits e =
    ap (λ b. cond b (made_view r soft bits) (or_else (greedy_view r soft bits) (settled r soft bits passes))) e

pub with_passes : (r : Rows) (passes : ℕ) (soft : List ℤ) (bits : List Bool) → (passes == 0) ≡ false → view_for r passes soft bits ≡ or_else (greedy_view r soft bits) (settled r soft bits passes)
with_passes r passes soft bits e =
    ap (λ b. cond b (made_view r soft bits) (or_else (greedy_view r soft bits) (settled r soft bits passes))) e

-- of a codeword that min-sum found, without passes and with
pub decoded_without : (r : Rows) (passes : ℕ) (soft : List ℤ) (bits : List Bool) → (passes == 0) ≡ true → decoded_view r passes soft bits ≡ made_view r soft bits
decoded_without r passes soft bits e = ap (λ b. cond b (made_view r soft bits) (settled r soft bits passes)) e

pub decoded_with : (r : Rows) (passes : ℕ) (soft : List ℤ) (bits : List Bool) → (passes == 0) ≡ false → decoded_view r passes soft bits ≡ settled r soft bits passes
decoded_with r passes soft bits e = ap (λ b. cond b (made_view r soft bits) (settled r soft bits passes)) e

of_lists : (r : Rows) (soft : List ℤ) (bits : List Bool) (view : View) (o : Option Shared) → shared_views r soft bits o ≡ Some view → (view.soft ≡ soft) × (view.bits ≡ bits)
of_lists r soft bits view None e = cc
of_lists r soft bits view (Some s) e =
    let same : shared_view r soft bits s ≡ view = cc in
    (sym (ap (λ (v : View). v.soft) same), sym (ap (λ (v : View). v.bits) same))

shared_shown : (r : Rows) (soft : List ℤ) (bits : List Bool) (view : View) (o : Option Shared) → IfSome (shared_views r soft bits o) (λ v. IsCertificate r v) → shared_views r soft bits o ≡ Some view → IsCertificateOf r soft bits view
shared_shown r soft bits view o accepted is =
    let lists = of_lists r soft bits view o is in
    record {
      accepted = subst (λ (o : Option View). IfSome o (λ v. IsCertificate r v)) is accepted;
      values = lists.0;
      word = lists.1;
    }

settled_shown : (r : Rows) (passes : ℕ) (soft : List ℤ) (bits : List Bool) (view : View) → IsCodeword (code_of r) bits → settled r soft bits passes ≡ Some view → IsCertificateOf r soft bits view
settled_shown r passes soft bits view codeword is =
    let all = settled_lem r soft bits passes view codeword is in
    record { accepted = all.0.certificate; values = all.1; word = all.2 }

-- a certificate that is found for a codeword is one
pub found_shown : (r : Rows) (passes : ℕ) (soft : List ℤ) (bits : List Bool) (view : View) → IsCodeword (code_of r) bits → view_for r passes soft bits ≡ Some view → IsCertificateOf r soft bits view
found_shown r passes soft bits view codeword is =
    elim (cases_Bool (passes == 0)) [
      | inl none ↦ shared_shown r soft bits view (shared (code_of r) bits (made_split (code_of r) soft bits)) (made_certificate r soft bits codeword) (sym (without_passes r passes soft bits none) ∙ is)
      | inr some ↦ either (greedy_view r soft bits) refl (sym (with_passes r passes soft bits some) ∙ is)
    ]
  where
    either : (o : Option View) → greedy_view r soft bits ≡ o → or_else o (settled r soft bits passes) ≡ Some view → IsCertificateOf r soft bits view
    either (Some v) e s = shared_shown r soft bits view (shared (code_of r) bits (greedy_split (code_of r) soft bits)) (greedy_certificate r soft bits codeword) (e ∙ s)
    either None e s = settled_shown r passes soft bits view codeword s

pub decoded_shown : (r : Rows) (passes : ℕ) (soft : List ℤ) (bits : List Bool) (view : View) → IsCodeword (code_of r) bits → decoded_view r passes soft bits ≡ Some view → IsCertificateOf r soft bits view
decoded_shown r passes soft bits view codeword is =
    elim (cases_Bool (passes == 0)) [
      | inl none ↦ shared_shown r soft bits view (shared (code_of r) bits (made_split (code_of r) soft bits)) (made_certificate r soft bits codeword) (sym (decoded_without r passes soft bits none) ∙ is)
      | inr some ↦ settled_shown r passes soft bits view codeword (sym (decoded_with r passes soft bits some) ∙ is)
    ]

-- where the values are scattered about a word, one is found
pub scattered_found : (r : Rows) (passes : ℕ) (soft : List ℤ) (word : List Bool) → IsScattered (code_of r) soft word → view_for r passes soft word ≢ None
scattered_found r passes soft word s none =
    elim (cases_Bool (passes == 0)) [
      | inl no_passes ↦ scattered_view r soft word s (sym (without_passes r passes soft word no_passes) ∙ none)
      | inr some ↦ either (greedy_view r soft word) (scattered_greedy r soft word s) (sym (with_passes r passes soft word some) ∙ none)
    ]
  where
    either : (o : Option View) → o ≢ None → or_else o (settled r soft word passes) ≡ None → ⊥
    either (Some v) some e = cc
    either None some e = some refl

-- ---- who holds what was found

pub none_found : (found : Option Shared) → (found ≢ None → ⊥) → found ≡ None
none_found (Some s) lacks = absurd (lacks (λ e. cc))
none_found None lacks = refl

-- by the answer of a maker or a certifier
pub found_nothing : (b : Bool) (found : Option Shared) → (IsTrue b ↔ (found ≢ None)) → b ≡ false → found ≡ None
found_nothing b found says unsure = none_found found (λ some. both_ways b unsure (says.1 some))

pub found_or_none : (r : Rows) (soft : List ℤ) (bits : List Bool) (found : Option Shared) (b : Bool) → (IsTrue b ↔ (found ≢ None)) → shared_views r soft bits found ≡ cond b (shared_views r soft bits found) None
found_or_none r soft bits found true says = refl
found_or_none r soft bits found false says =
    ap (shared_views r soft bits) (found_nothing false found says refl)

-- greedy amounts, where there are passes
pub by_greedy : (r : Rows) (passes : ℕ) (soft : List ℤ) (word : List Bool) (made : Option Shared) → (passes == 0) ≡ false → made ≡ shared (code_of r) word (greedy_split (code_of r) soft word) → made ≢ None → view_for r passes soft word ≡ shared_views r soft word made
by_greedy r passes soft word made some made_is found =
    with_passes r passes soft word some ∙ ap (λ o. or_else (shared_views r soft word o) (settled r soft word passes)) (sym made_is) ∙ first made found
  where
    first : (made : Option Shared) → made ≢ None → or_else (shared_views r soft word made) (settled r soft word passes) ≡ shared_views r soft word made
    first (Some s) found = refl
    first None found = absurd (found refl)

-- nobody, where neither greedy amounts nor passes reach
pub by_nobody : (r : Rows) (passes : ℕ) (soft : List ℤ) (word : List Bool) (made : Option Shared) → (passes == 0) ≡ false → made ≡ shared (code_of r) word (greedy_split (code_of r) soft word) → made ≡ None → settled r soft word passes ≡ None → view_for r passes soft word ≡ None
by_nobody r passes soft word made some made_is none is =
    with_passes r passes soft word some ∙ ap (λ o. or_else (shared_views r soft word o) (settled r soft word passes)) (sym made_is ∙ none) ∙ is

settled_same : (r : Rows) (soft : List ℤ) (word : List Bool) (ascent : Settling) → ascent.rows ≡ r → view_settled ascent soft word ≡ shared_view r soft word (settled_shares ascent)
settled_same r soft word ascent rows = ap (λ (q : Rows). shared_view q soft word (settled_shares ascent)) rows

-- what an ascent holds is strict
pub strict_settled : (r : Rows) (soft : List ℤ) (word : List Bool) (ascent : Settling) → ascent.rows ≡ r → IsStrict r (view_settled ascent soft word) → is_strict r (shared_view r soft word (settled_shares ascent)) ≡ true
strict_settled r soft word ascent rows strict =
    ap (is_strict r) (sym (settled_same r soft word ascent rows)) ∙ strict_test r (view_settled ascent soft word) strict.strict

-- whether what a maker holds is, by its rests
pub strict_made : (r : Rows) (soft : List ℤ) (word : List Bool) (m : Making) (b : Bool) → m.rows ≡ r → HoldsRests m soft word → (IsTrue b ↔ AreSome (code_of m.rows) m.rests) → IfSome m.made (λ s. is_strict r (shared_view r soft word s) ≡ b)
strict_made r soft word m b rows left says =
    subst (λ (q : Rows). IfSome m.made (λ s. is_strict q (shared_view q soft word s) ≡ b)) rows (go m.made left)
  where
    go : (o : Option Shared) → IfSome o (λ s. AreLeft (code_of m.rows) soft word (placed_of (code_of m.rows) word s.scale s.moves) m.rests) → IfSome o (λ s. is_strict m.rows (shared_view m.rows soft word s) ≡ b)
    go None h = tt
    go (Some s) h =
        let at = λ (i : ℕ) (low : i < (code_of m.rows).bits). h i low ∙ ap (in_favour word i) (sym (rest_listed (code_of m.rows) soft (placed_of (code_of m.rows) word s.scale s.moves) i low)) in
        strict_is m.rows (shared_view m.rows soft word s) b (λ yes' i low. subst (λ (z : ℤ). pos 1 ≤ℤ z) (at i low) (says.0 yes' i low), λ strict. says.1 (λ i low. subst (λ (z : ℤ). pos 1 ≤ℤ z) (sym (at i low)) (strict i low)))

-- the ascent, where greedy amounts don't reach
pub by_ascent : (r : Rows) (passes : ℕ) (soft : List ℤ) (word : List Bool) (made : Option Shared) (ascent : Settling) → (passes == 0) ≡ false → made ≡ shared (code_of r) word (greedy_split (code_of r) soft word) → made ≡ None → ascent.rows ≡ r → settled r soft word passes ≡ Some (view_settled ascent soft word) → view_for r passes soft word ≡ shared_views r soft word (Some (settled_shares ascent))
by_ascent r passes soft word made ascent some made_is none rows is =
    with_passes r passes soft word some
    ∙ ap (λ o. or_else (shared_views r soft word o) (settled r soft word passes)) (sym made_is ∙ none)
    ∙ is
    ∙ ap Some (settled_same r soft word ascent rows)

pub decoded_by_ascent : (r : Rows) (passes : ℕ) (soft : List ℤ) (word : List Bool) (ascent : Settling) → (passes == 0) ≡ false → ascent.rows ≡ r → settled r soft word passes ≡ Some (view_settled ascent soft word) → decoded_view r passes soft word ≡ shared_views r soft word (Some (settled_shares ascent))
decoded_by_ascent r passes soft word ascent some rows is =
    decoded_with r passes soft word some ∙ is ∙ ap Some (settled_same r soft word ascent rows)

-- what a certifier, unchanged before, finds for the repair
pub view_by_certifier : (soft : List ℤ) (word : List Bool) (before start : Certifying) (found : Option Shared) → word ≡ repaired (code_of start.rows) soft → before ≡ start → view_for before.rows before.passes soft word ≡ shared_views before.rows soft word found → view_for start.rows start.passes soft (repaired (code_of start.rows) soft) ≡ shared_views start.rows soft word found
view_by_certifier soft word before start found is same view =
    ap (view_for start.rows start.passes soft) (sym is) ∙ subst (λ (m : Certifying). view_for m.rows m.passes soft word ≡ shared_views m.rows soft word found) same view
