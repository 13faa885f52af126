-- The words of a text are those that its bytes end, one after another.
use Rattle.std.proofs.Common.{◌≡◌, ℕ, ◌+◌, ◌==◌, Bool, true, false, cond, List, [], ◌∷◌, ◌++◌, map, filter, ℤ, Option, Some, None, Result, inl, inr, refl, sym, ap, ap₂, ◌∙◌, append-nil, append_assoc}
use Rattle.std.proofs.lemmas.Bool.{cases_Bool, cond-true, cond-false}
use Rattle.std.proofs.lemmas.List.{map-append}
use Rattle.s2_rows.specs.Text.{is_space, is_line_feed, in_front, pieces_of, lines_of, is_token, tokens_of, is_ignored}
use Rattle.s2_rows.specs.Values.{tokens_at, tokens_from}
use Rattle.s2_rows.specs.declared.values.ValueFault.{ValueFault}
use Rattle.s2_judging.specs.declared.words.Word.{Word}
use Rattle.s2_judging.specs.declared.words.Place.{Place}
use Rattle.s2_judging.specs.declared.words.Place.TheVariants as places
use Rattle.s2_judging.specs.declared.words.Position.{Position}
use Rattle.s2_judging.specs.Frames.{word_by, words_by}
use Rattle.s2_judging.specs.Bytewise.{first_byte, then_byte, word_said, after_space, after_letter, after_byte, word_in, word_ended, said_by, words_from}
use Rattle.s2_judging.proofs.Spelling.{Spells, spells_first, spells_then, spells_said}

-- ---- pieces

-- the first piece, and those after it
abbrev head : List (List ℕ) → List ℕ
head [] = []
head (piece ∷ pieces) = piece

abbrev tail : List (List ℕ) → List (List ℕ)
tail [] = []
tail (piece ∷ pieces) = pieces

head_in_front : (b : ℕ) (pieces : List (List ℕ)) → head (in_front b pieces) ≡ b ∷ head pieces
head_in_front b [] = refl
head_in_front b (piece ∷ pieces) = refl

tail_in_front : (b : ℕ) (pieces : List (List ℕ)) → tail (in_front b pieces) ≡ tail pieces
tail_in_front b [] = refl
tail_in_front b (piece ∷ pieces) = refl

cut_at : (p : ℕ → Bool) (b : ℕ) (bytes : List ℕ) → p b ≡ true → pieces_of p (b ∷ bytes) ≡ [] ∷ pieces_of p bytes
unfolding pieces_of
cut_at p b bytes h = cond-true _ _ _ h

put_in : (p : ℕ → Bool) (b : ℕ) (bytes : List ℕ) → p b ≡ false → pieces_of p (b ∷ bytes) ≡ in_front b (pieces_of p bytes)
unfolding pieces_of
put_in p b bytes h = cond-false _ _ _ h

-- ---- tokens of a line

-- the tokens of a line of which these bytes of a word are read
abbrev inside : List ℕ → List ℕ → List (List ℕ)
inside word line = (word ++ head (pieces_of is_space line)) ∷ filter is_token (tail (pieces_of is_space line))

tokens_space : (b : ℕ) (line : List ℕ) → is_space b ≡ true → tokens_of (b ∷ line) ≡ tokens_of line
tokens_space b line h = ap (filter is_token) (cut_at is_space b line h)

tokens_front : (b : ℕ) (pieces : List (List ℕ)) → filter is_token (in_front b pieces) ≡ (b ∷ head pieces) ∷ filter is_token (tail pieces)
tokens_front b [] = refl
tokens_front b (piece ∷ pieces) = refl

tokens_letter : (b : ℕ) (line : List ℕ) → is_space b ≡ false → tokens_of (b ∷ line) ≡ inside (b ∷ []) line
tokens_letter b line h = ap (filter is_token) (put_in is_space b line h) ∙ tokens_front b (pieces_of is_space line)

inside_cut : (word : List ℕ) (pieces more : List (List ℕ)) → pieces ≡ [] ∷ more
    → (word ++ head pieces) ∷ filter is_token (tail pieces) ≡ word ∷ filter is_token more
inside_cut word pieces more h =
    ap (λ (p : List (List ℕ)). (word ++ head p) ∷ filter is_token (tail p)) h ∙ ap (λ (w : List ℕ). w ∷ filter is_token more) (append-nil word)

inside_space : (word : List ℕ) (b : ℕ) (line : List ℕ) → is_space b ≡ true → inside word (b ∷ line) ≡ word ∷ tokens_of line
inside_space word b line h = inside_cut word (pieces_of is_space (b ∷ line)) (pieces_of is_space line) (cut_at is_space b line h)

inside_put : (word : List ℕ) (b : ℕ) (pieces more : List (List ℕ)) → pieces ≡ in_front b more
    → (word ++ head pieces) ∷ filter is_token (tail pieces) ≡ ((word ++ b ∷ []) ++ head more) ∷ filter is_token (tail more)
inside_put word b pieces more h =
    ap (λ (p : List (List ℕ)). (word ++ head p) ∷ filter is_token (tail p)) h
    ∙ ap₂ (λ (x : List ℕ) (y : List (List ℕ)). (word ++ x) ∷ filter is_token y) (head_in_front b more) (tail_in_front b more)
    ∙ ap (λ (x : List ℕ). x ∷ filter is_token (tail more)) (sym (append_assoc word (b ∷ []) (head more)))

inside_letter : (word : List ℕ) (b : ℕ) (line : List ℕ) → is_space b ≡ false → inside word (b ∷ line) ≡ inside (word ++ b ∷ []) line
inside_letter word b line h = inside_put word b (pieces_of is_space (b ∷ line)) (pieces_of is_space line) (put_in is_space b line h)

inside_end : (word : List ℕ) → inside word [] ≡ word ∷ []
unfolding pieces_of
inside_end word = ap (λ (x : List ℕ). x ∷ []) (append-nil word)

none_in : tokens_of [] ≡ []
unfolding pieces_of
none_in = refl

-- the tokens of the first line, then those of the others
lines_cut : (n : ℕ) (lines : List (List ℕ)) → tokens_from n lines ≡ tokens_at n (tokens_of (head lines)) ++ tokens_from (n + 1) (tail lines)
lines_cut n [] = sym (ap (λ (t : List (List ℕ)). tokens_at n t ++ []) none_in)
lines_cut n (line ∷ lines) = refl

-- a comment has no tokens, and another line all
comment : (n : ℕ) (b : ℕ) (line : List ℕ) → (b == 35) ≡ true → tokens_at n (inside (b ∷ []) line) ≡ []
comment n b line h = cond-true _ _ _ h

no_comment : (n : ℕ) (b : ℕ) (line : List ℕ) → (b == 35) ≡ false → tokens_at n (inside (b ∷ []) line) ≡ map (λ token. (n, token)) (inside (b ∷ []) line)
no_comment n b line h = cond-false _ _ _ h

-- ---- a byte

module _ (b : ℕ) where
  ended_line : (place : Place) → is_line_feed b ≡ true → word_ended place b ≡ word_in place
  ended_line place h = rw h refl

  ended_space : (place : Place) → is_line_feed b ≡ false → is_space b ≡ true → word_ended place b ≡ word_in place
  ended_space place h k = rw (h, k) refl

  ended_not : (place : Place) → is_line_feed b ≡ false → is_space b ≡ false → word_ended place b ≡ None
  ended_not place h k = rw (h, k) refl

  after_line : (line : ℕ) (place : Place) → is_line_feed b ≡ true → after_byte (record { line = line; place = place }) b ≡ record { line = line + 1; place = places.Start }
  after_line line place h = cond-true _ _ _ h

  after_spaces : (line : ℕ) (place : Place) → is_line_feed b ≡ false → is_space b ≡ true → after_byte (record { line = line; place = place }) b ≡ record { line = line; place = after_space place }
  after_spaces line place h k = cond-false _ _ _ h ∙ cond-true _ _ _ k

  after_letters : (line : ℕ) (place : Place) → is_line_feed b ≡ false → is_space b ≡ false → after_byte (record { line = line; place = place }) b ≡ record { line = line; place = after_letter place b }
  after_letters line place h k = cond-false _ _ _ h ∙ cond-false _ _ _ k

-- ---- the words that the bytes end

abbrev Words : Type 0
Words = List (Result ℤ ValueFault)

module _ (hard : Bool) where
  abbrev from : ℕ → Place → List ℕ → Words
  from line place bytes = words_from hard (record { line = line; place = place }) bytes

  -- what tokens of a line say
  abbrev said : ℕ → List (List ℕ) → Words
  said line tokens = map (word_by hard) (map (λ token. (line, token)) tokens)

  -- what the tokens of lines say
  abbrev said_from : ℕ → List (List ℕ) → Words
  said_from line lines = map (word_by hard) (tokens_from line lines)

  abbrev said_at : ℕ → List (List ℕ) → Words
  said_at line tokens = map (word_by hard) (tokens_at line tokens)

  -- what the rest of a text says, by the place where it begins
  record Says (bytes : List ℕ) : Type 0 where
    start : (line : ℕ) → from line places.Start bytes ≡ said_at line (tokens_of (head (lines_of bytes))) ++ said_from (line + 1) (tail (lines_of bytes))
    comments : (line : ℕ) → from line places.Comment bytes ≡ said_from (line + 1) (tail (lines_of bytes))
    between : (line : ℕ) → from line places.Between bytes ≡ said line (tokens_of (head (lines_of bytes))) ++ said_from (line + 1) (tail (lines_of bytes))
    within : (line : ℕ) (word : Word) (read : List ℕ) → Spells read word
        → from line (places.Inside word) bytes ≡ said line (inside read (head (lines_of bytes))) ++ said_from (line + 1) (tail (lines_of bytes))

  -- all lines
  whole : (bytes : List ℕ) → Says bytes → (line : ℕ) → from line places.Start bytes ≡ said_from line (lines_of bytes)
  whole bytes h line =
      h.start line ∙ sym (map-append (word_by hard) (tokens_at line (tokens_of (head (lines_of bytes)))) (tokens_from (line + 1) (tail (lines_of bytes))))
      ∙ ap (map (word_by hard)) (sym (lines_cut line (lines_of bytes)))

  says_end : Says []
  unfolding words_from pieces_of
  says_end = record {
    start = λ line. refl;
    comments = λ line. refl;
    between = λ line. refl;
    within = λ line word read h. ap (λ w. w ∷ []) (spells_said hard line read word h) ∙ ap (λ tokens. said line tokens ++ []) (sym (inside_end read));
  }

  module _ (b : ℕ) (bytes : List ℕ) (rest : Says bytes) where
    -- one byte: the word that it ends, and the place after it
    step : (line : ℕ) (place : Place) (ended : Option Word) (next : Position) → word_ended place b ≡ ended → after_byte (record { line = line; place = place }) b ≡ next
        → from line place (b ∷ bytes) ≡ said_by hard line ended ++ words_from hard next bytes
    unfolding words_from
    step line place ended next e a = ap₂ (λ w p. said_by hard line w ++ words_from hard p bytes) e a

    module _ (lf : is_line_feed b ≡ true) where
      lines : lines_of (b ∷ bytes) ≡ [] ∷ lines_of bytes
      lines = cut_at is_line_feed b bytes lf

      -- a line ends
      ends : (line : ℕ) (place : Place) → from line place (b ∷ bytes) ≡ said_by hard line (word_in place) ++ said_from (line + 1) (lines_of bytes)
      ends line place =
          step line place (word_in place) (record { line = line + 1; place = places.Start }) (ended_line b place lf) (after_line b line place lf)
          ∙ ap (λ w. said_by hard line (word_in place) ++ w) (whole bytes rest (line + 1))

      by_lines : (P : List (List ℕ) → Words) (line : ℕ) (place : Place) → said_by hard line (word_in place) ++ said_from (line + 1) (lines_of bytes) ≡ P ([] ∷ lines_of bytes)
          → from line place (b ∷ bytes) ≡ P (lines_of (b ∷ bytes))
      by_lines P line place h = ends line place ∙ h ∙ ap P (sym lines)

      says_line : Says (b ∷ bytes)
      says_line = record {
        start = λ line. by_lines (λ ls. said_at line (tokens_of (head ls)) ++ said_from (line + 1) (tail ls)) line places.Start (ap (λ t. said_at line t ++ said_from (line + 1) (lines_of bytes)) (sym none_in));
        comments = λ line. by_lines (λ ls. said_from (line + 1) (tail ls)) line places.Comment refl;
        between = λ line. by_lines (λ ls. said line (tokens_of (head ls)) ++ said_from (line + 1) (tail ls)) line places.Between (ap (λ t. said line t ++ said_from (line + 1) (lines_of bytes)) (sym none_in));
        within = λ line word read h. by_lines (λ ls. said line (inside read (head ls)) ++ said_from (line + 1) (tail ls)) line (places.Inside word)
            (ap (λ w. (w ∷ []) ++ said_from (line + 1) (lines_of bytes)) (spells_said hard line read word h) ∙ ap (λ t. said line t ++ said_from (line + 1) (lines_of bytes)) (sym (inside_end read)));
      }

    module _ (no_lf : is_line_feed b ≡ false) where
      first : head (lines_of (b ∷ bytes)) ≡ b ∷ head (lines_of bytes)
      first = ap head (put_in is_line_feed b bytes no_lf) ∙ head_in_front b (lines_of bytes)

      others : tail (lines_of (b ∷ bytes)) ≡ tail (lines_of bytes)
      others = ap tail (put_in is_line_feed b bytes no_lf) ∙ tail_in_front b (lines_of bytes)

      -- what the tokens of the line say, and the other lines
      abbrev and_others : ℕ → Words → Words
      and_others line words = words ++ said_from (line + 1) (tail (lines_of bytes))

      by_first : (P : List ℕ → Words) (line : ℕ) (words : Words) → words ≡ and_others line (P (b ∷ head (lines_of bytes)))
          → words ≡ P (head (lines_of (b ∷ bytes))) ++ said_from (line + 1) (tail (lines_of (b ∷ bytes)))
      by_first P line words h = h ∙ ap₂ (λ x y. P x ++ said_from (line + 1) y) (sym first) (sym others)

      module _ (sp : is_space b ≡ true) where
        goes_on : (line : ℕ) (place : Place) → from line place (b ∷ bytes) ≡ said_by hard line (word_in place) ++ from line (after_space place) bytes
        goes_on line place =
            step line place (word_in place) (record { line = line; place = after_space place }) (ended_space b place no_lf sp) (after_spaces b line place no_lf sp)

        says_space : Says (b ∷ bytes)
        says_space = record {
          start = λ line. by_first (λ l. said_at line (tokens_of l)) line _ (goes_on line places.Start ∙ rest.start line ∙ ap (λ t. and_others line (said_at line t)) (sym (tokens_space b (head (lines_of bytes)) sp)));
          comments = λ line. goes_on line places.Comment ∙ rest.comments line ∙ ap (said_from (line + 1)) (sym others);
          between = λ line. by_first (λ l. said line (tokens_of l)) line _ (goes_on line places.Between ∙ rest.between line ∙ ap (λ t. and_others line (said line t)) (sym (tokens_space b (head (lines_of bytes)) sp)));
          within = λ line word read h. by_first (λ l. said line (inside read l)) line _
              (goes_on line (places.Inside word) ∙ ap₂ (λ w ws. w ∷ ws) (spells_said hard line read word h) (rest.between line)
              ∙ ap (λ t. and_others line (said line t)) (sym (inside_space read b (head (lines_of bytes)) sp)));
        }

      module _ (letter : is_space b ≡ false) where
        passes : (line : ℕ) (place : Place) → from line place (b ∷ bytes) ≡ from line (after_letter place b) bytes
        passes line place = step line place None (record { line = line; place = after_letter place b }) (ended_not b place no_lf letter) (after_letters b line place no_lf letter)

        abbrev line_head : List ℕ
        line_head = head (lines_of bytes)

        -- the first word of a line begins, or a comment
        begins : (line : ℕ) → from line (after_letter places.Start b) bytes ≡ and_others line (said_at line (inside (b ∷ []) line_head))
        begins line =
            elim (cases_Bool (b == 35)) [
              | inl mark ↦ (ap (λ p. from line p bytes) (cond-true _ _ _ mark) ∙ rest.comments line ∙ ap (λ t. and_others line (map (word_by hard) t)) (sym (comment line b line_head mark)))
              | inr none ↦ (ap (λ p. from line p bytes) (cond-false _ _ _ none) ∙ rest.within line (first_byte b) (b ∷ []) (spells_first b)
                  ∙ ap (λ t. and_others line (map (word_by hard) t)) (sym (no_comment line b line_head none)))
            ]

        says_letter : Says (b ∷ bytes)
        says_letter = record {
          start = λ line. by_first (λ l. said_at line (tokens_of l)) line _ (passes line places.Start ∙ begins line ∙ ap (λ t. and_others line (said_at line t)) (sym (tokens_letter b line_head letter)));
          comments = λ line. passes line places.Comment ∙ rest.comments line ∙ ap (said_from (line + 1)) (sym others);
          between = λ line. by_first (λ l. said line (tokens_of l)) line _ (passes line places.Between ∙ rest.within line (first_byte b) (b ∷ []) (spells_first b)
              ∙ ap (λ t. and_others line (said line t)) (sym (tokens_letter b line_head letter)));
          within = λ line word read h. by_first (λ l. said line (inside read l)) line _
              (passes line (places.Inside word) ∙ rest.within line (then_byte word b) (read ++ b ∷ []) (spells_then read word b h)
              ∙ ap (λ t. and_others line (said line t)) (sym (inside_letter read b line_head letter)));
        }

  says : (bytes : List ℕ) → Says bytes
  says [] = says_end
  says (b ∷ bytes) =
      elim (cases_Bool (is_line_feed b)) [
        | inl lf ↦ says_line b bytes (says bytes) lf
        | inr no_lf ↦ elim (cases_Bool (is_space b)) [ inl sp ↦ says_space b bytes (says bytes) no_lf sp | inr letter ↦ says_letter b bytes (says bytes) no_lf letter ]
      ]

  -- what the words of a text say is what its bytes end
  pub words_are : (bytes : List ℕ) → words_by hard bytes ≡ words_from hard (record { line = 1; place = places.Start }) bytes
  words_are bytes = sym (whole bytes (says bytes) 1)
