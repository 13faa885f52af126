-- Lost frames, searched again.
use Rattle.s2_receive.proofs.Names.{◌≡◌, ◌≢◌, ℕ, zero, suc, ◌+◌, ◌-◌, ◌<◌, ◌≤◌, ◌⊎◌, inl, inr, Bool, true, false, List, [], ◌++◌, length, take, drop, refl, sym, ap, ◌∙◌, subst, length-append, length-drop, append-nil, arith, ◌||◌, cases_lt, cond-true, cond-false, le-leb, lt-ltb, le-ltb, drop-drop, drop-append-le, take-append-le, Symbol, Found, begins, by_found, is_followed, resumes, resumed, IsResumed, NextCoded, Candidate, MayFollow}
use Rattle.s2_receive.proofs.Names.founds

module _ (finds : Bool → List Symbol → Found) (size : ℕ) where
  -- none before this place
  pub resumed-past : (n place : ℕ) (symbols : List Symbol) → place ≤ n → ((i : ℕ) → i < place → resumes finds size (drop i symbols) ≡ false) → resumed finds size n symbols ≡ place + resumed finds size (n - place) (drop place symbols)
  resumed-past n zero symbols h none =
      let left : n ≡ n - 0 = omega arith in
      let same : resumed finds size n symbols ≡ resumed finds size (n - 0) (drop 0 symbols) = ap (λ k. resumed finds size k symbols) left in
      omega (arith, same)
  resumed-past zero (suc place) symbols h none = absurd (omega arith)
  resumed-past (suc n) (suc place) symbols h none =
      let left : n - place ≡ suc n - suc place = omega arith in
      let one : 1 + place ≡ suc place = omega arith in
      let later = resumed-past n place (drop 1 symbols) (omega arith) (λ i k. ap (resumes finds size) (drop-drop i 1 symbols) ∙ none (1 + i) (omega arith)) in
      let there : resumed finds size (n - place) (drop place (drop 1 symbols)) ≡ resumed finds size (suc n - suc place) (drop (suc place) symbols) =
      ap (resumed finds size (n - place)) (drop-drop place 1 symbols ∙ ap (λ k. drop k symbols) one) ∙ ap (λ k. resumed finds size k (drop (suc place) symbols)) left in
      let here : resumed finds size (suc n) symbols ≡ suc (resumed finds size n (drop 1 symbols)) = cond-false _ _ _ (none 0 (omega arith)) in
      omega (arith, here, later, there)

  -- the first one is there
  pub resumed-here : (n : ℕ) (symbols : List Symbol) → resumes finds size symbols ≡ true → resumed finds size n symbols ≡ 0
  resumed-here zero symbols is = refl
  resumed-here (suc n) symbols is = cond-true _ _ _ is

  -- the place is the first
  pub resumed-is : (n place : ℕ) (symbols : List Symbol) → place ≤ n → ((i : ℕ) → i < place → resumes finds size (drop i symbols) ≡ false) → (place < n → resumes finds size (drop place symbols) ≡ true)
      → resumed finds size n symbols ≡ place
  resumed-is n place symbols h none there = resumed-past n place symbols h none ∙ elim (cases_lt place n) [
    | inl before ↦ (let here = resumed-here (n - place) (drop place symbols) (there before) in omega (arith, here))
    | inr last ↦ (let over : n - place ≡ 0 = omega arith in
        let nothing : resumed finds size (n - place) (drop place symbols) ≡ 0 = ap (λ k. resumed finds size k (drop place symbols)) over in omega (arith, nothing))
  ]

  first_so : (n : ℕ) (symbols : List Symbol) (b : Bool) → resumes finds size symbols ≡ b → IsResumed finds size n (drop 1 symbols) (resumed finds size n (drop 1 symbols)) → IsResumed finds size (suc n) symbols (resumed finds size (suc n) symbols)
  first_so n symbols true is later =
      let none = resumed-here (suc n) symbols is in
      record { within = omega (arith, none); first = λ i k. absurd (omega (arith, none)); there = λ before. subst (λ k. resumes finds size (drop k symbols) ≡ true) (sym none) is }
  first_so n symbols false is later =
      let more : resumed finds size (suc n) symbols ≡ suc (resumed finds size n (drop 1 symbols)) = cond-false _ _ _ is in
      subst (IsResumed finds size (suc n) symbols) (sym more) (record {
        within = omega (arith, later.within);
        first = λ i k. before i (λ j e. ap (λ x. resumes finds size (drop x symbols)) e ∙ sym (ap (resumes finds size) (drop-drop j 1 symbols)) ∙ later.first j (omega (arith, e, k)));
        there = λ k.
            (let m = resumed finds size n (drop 1 symbols) in
            let one : suc m ≡ 1 + m = omega arith in
            ap (λ x. resumes finds size (drop x symbols)) one ∙ sym (ap (resumes finds size) (drop-drop m 1 symbols)) ∙ later.there (omega arith));
      })
    where
      before : (i : ℕ) → ((j : ℕ) → i ≡ 1 + j → resumes finds size (drop i symbols) ≡ false) → resumes finds size (drop i symbols) ≡ false
      before zero h = is
      before (suc i) h = h i (omega arith)

  pub resume_law : (n : ℕ) (symbols : List Symbol) → IsResumed finds size n symbols (resumed finds size n symbols)
  resume_law zero symbols = record { within = omega arith; first = λ i k. absurd (omega arith); there = λ k. absurd (omega arith) }
  resume_law (suc n) symbols = first_so n symbols (resumes finds size symbols) refl (resume_law n (drop 1 symbols))

  -- ---- places in symbols that are held

  -- no coded frame's header, so no frame
  not_coded : (symbols : List Symbol) → begins (finds false) symbols ≢ founds.Coded → resumes finds size symbols ≡ false
  not_coded symbols other = by (begins (finds false) symbols) other
    where
      by : (f : Found) → f ≢ founds.Coded → by_found f (is_followed finds size symbols) false false ≡ false
      by founds.Coded other = absurd (other refl)
      by founds.Dummy other = refl
      by founds.Nothing other = refl

  -- such a header, and a header behind it or the end
  coded_so : (symbols : List Symbol) (b : Bool) → begins (finds false) symbols ≡ founds.Coded → is_followed finds size symbols ≡ b → resumes finds size symbols ≡ b
  coded_so symbols b coded followed = ap (λ f. by_found f (is_followed finds size symbols) false false) coded ∙ followed

  ends_there : (symbols : List Symbol) → length symbols < size + 90 → is_followed finds size symbols ≡ true
  ends_there symbols few = ap (λ b. b || by_found (begins (finds false) (drop size symbols)) true true false) (lt-ltb (length symbols) (size + 90) few)

  goes_by : (symbols : List Symbol) (f : Found) → size + 90 ≤ length symbols → begins (finds false) (drop size symbols) ≡ f → is_followed finds size symbols ≡ by_found f true true false
  goes_by symbols f many is =
      ap (λ b. b || by_found (begins (finds false) (drop size symbols)) true true false) (le-ltb (length symbols) (size + 90) many) ∙ ap (λ x. by_found x true true false) is

  -- what begins where 90 symbols are held
  pub begins_held : (symbols coming : List Symbol) (i : ℕ) → i + 90 ≤ length symbols → begins (finds false) (drop i (symbols ++ coming)) ≡ finds false (take 90 (drop i symbols))
  begins_held symbols coming i h =
      cond-true _ _ _ (le-leb 90 (length (drop i (symbols ++ coming))) (omega (arith, length-drop i (symbols ++ coming), length-append symbols coming)))
      ∙ ap (finds false) (ap (take 90) (drop-append-le i symbols coming (omega arith)) ∙ take-append-le 90 (drop i symbols) coming (omega (arith, length-drop i symbols)))

  begins_same : (symbols coming : List Symbol) (i : ℕ) → i + 90 ≤ length symbols → begins (finds false) (drop i (symbols ++ coming)) ≡ begins (finds false) (drop i symbols)
  begins_same symbols coming i h =
      begins_held symbols coming i h ∙ sym (begins_held symbols [] i h) ∙ ap (λ l. begins (finds false) (drop i l)) (append-nil symbols)

  module _ (symbols : List Symbol) (before : ℕ) (small : before < size) where
    -- no such header at a place that was looked at
    passed_over : (coming : List Symbol) → MayFollow size symbols coming → (i : ℕ) → i < before → begins (finds false) (drop i symbols) ≢ founds.Coded → resumes finds size (drop i (symbols ++ coming)) ≡ false
    passed_over coming may i k other = not_coded (drop i (symbols ++ coming)) (λ coded. other (sym (same (cases_lt (length symbols) (size + 90))) ∙ coded))
      where
        same : (length symbols < size + 90) ⊎ (size + 90 ≤ length symbols) → begins (finds false) (drop i (symbols ++ coming)) ≡ begins (finds false) (drop i symbols)
        same (inl few) = ap (λ l. begins (finds false) (drop i (symbols ++ l))) (may few) ∙ ap (λ l. begins (finds false) (drop i l)) (append-nil symbols)
        same (inr many) = begins_same symbols coming i (omega arith)

    -- where the stream ends, or the first place is none
    pub first_found : (place : ℕ) → NextCoded finds symbols 0 before place → (0 < place) ⊎ (length symbols < size + 90) → Candidate finds size before symbols place
    first_found place next so = record {
      within = next.within;
      none = λ coming may i k. passed_over coming may i (omega (arith, k, next.within)) (next.none i (omega arith) k);
      there = λ coming may k where_is. ends so coming may k where_is;
    }
      where
        at_end : (coming : List Symbol) → MayFollow size symbols coming → place < before → length symbols < size + 90 → resumes finds size (drop place (symbols ++ coming)) ≡ true
        at_end coming may k few =
            let all : symbols ++ coming ≡ symbols = ap (λ l. symbols ++ l) (may few) ∙ append-nil symbols in
            ap (λ l. resumes finds size (drop place l)) all
            ∙ coded_so (drop place symbols) true (next.coded k) (ends_there (drop place symbols) (omega (arith, length-drop place symbols)))

        ends : (0 < place) ⊎ (length symbols < size + 90) → (coming : List Symbol) → MayFollow size symbols coming → place < before → (place ≡ 0) ⊎ (length symbols < size + 90)
            → resumes finds size (drop place (symbols ++ coming)) ≡ true
        ends (inl some) coming may k (inl none) = absurd (omega arith)
        ends (inl some) coming may k (inr few) = at_end coming may k few
        ends (inr few) coming may k where_is = at_end coming may k few

    module _ (many : size + 90 ≤ length symbols) (first : NextCoded finds symbols 0 before 0) (some : 1 ≤ before) where
      here_so : (coming : List Symbol) → resumes finds size (symbols ++ coming) ≡ by_found (finds false (take 90 (drop size symbols))) true true false
      here_so coming =
          coded_so (symbols ++ coming) (by_found (finds false (take 90 (drop size symbols))) true true false) (begins_same symbols coming 0 (omega arith) ∙ first.coded (omega arith))
          (goes_by (symbols ++ coming) (finds false (take 90 (drop size symbols))) (omega (arith, length-append symbols coming)) (begins_held symbols coming size many))

      -- the first place is one, and is followed
      pub first_followed : by_found (finds false (take 90 (drop size symbols))) true true false ≡ true → Candidate finds size before symbols 0
      first_followed is = record { within = omega arith; none = λ coming may i k. absurd (omega arith); there = λ coming may k where_is. here_so coming ∙ is }

      -- it is not followed
      pub first_refused : (place : ℕ) → by_found (finds false (take 90 (drop size symbols))) true true false ≡ false → NextCoded finds symbols 1 before place → Candidate finds size before symbols place
      first_refused place is next = record {
        within = next.within;
        none = λ coming may i k. by coming may i k;
        there = λ coming may k where_is. elim where_is [
          | inl none ↦ absurd (omega (arith, none, next.from))
          | inr few ↦ absurd (omega (arith, few, many))
        ];
      }
        where
          by : (coming : List Symbol) → MayFollow size symbols coming → (i : ℕ) → i < place → resumes finds size (drop i (symbols ++ coming)) ≡ false
          by coming may zero k = here_so coming ∙ is
          by coming may (suc i) k = passed_over coming may (suc i) (omega (arith, k, next.within)) (next.none (suc i) (omega arith) k)

-- by what a place was found
pub coded_by : (f : Found) → by_found f true false false ≡ true → f ≡ founds.Coded
coded_by founds.Coded is = refl
coded_by founds.Dummy is = cc
coded_by founds.Nothing is = cc

pub other_by : (f : Found) → by_found f true false false ≡ false → f ≢ founds.Coded
other_by founds.Coded is = cc
other_by founds.Dummy is = λ coded. cc
other_by founds.Nothing is = λ coded. cc
