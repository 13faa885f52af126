-- What a view's file says, lent for the same rows, is the same view.
use Rattle.std.proofs.Common.{◌≡◌, ℕ, zero, suc, ◌+◌, ◌==◌, Bool, true, false, cond, List, [], ◌∷◌, ◌++◌, length, map, get_or, replicate, sum_by, ℤ, pos, neg_ℤ, refl, sym, ap, ap₂, ◌∙◌, arith}
use Rattle.std.proofs.lemmas.List.Sums.{sum_by-cons}
use Rattle.s2_rows.specs.Rows.{Rows}
use Rattle.s2_bits.specs.Bits.{bit_at}
use Rattle.s2_matrix.specs.Total.{upto}
use Rattle.s2_matrix.specs.Code.{Code, code_of, members}
use Rattle.s2_check.specs.Moves.{Move, no_move, listed, placed_of}
use Rattle.s2_check.specs.Views.{View, unsplit_view}
use Rattle.s2_check.specs.CertificateFiles.{view_of}
use Rattle.s2_check.specs.CertificateBytes.{file_of, SameViewLaw}

none_at : (n j : ℕ) → get_or (replicate n no_move) j no_move ≡ no_move
none_at zero j = refl
none_at (suc n) zero = refl
none_at (suc n) (suc j) = none_at n j

none_moved : (one target : Bool) → cond one (neg_ℤ (cond target (neg_ℤ (pos 0)) (pos 0))) (cond target (neg_ℤ (pos 0)) (pos 0)) ≡ pos 0
none_moved true true = refl
none_moved true false = refl
none_moved false true = refl
none_moved false false = refl

share_none : (code : Code) (word : List Bool) (n j i : ℕ) → (placed_of code word 1 (replicate n no_move)).share j i ≡ pos 0
share_none code word n j i =
    let place = λ (m : Move). i == get_or (members code j) m.place 0 in
    let share = λ (m : Move). cond (bit_at word i) (neg_ℤ (cond (place m) (neg_ℤ (pos m.amount)) (pos m.amount))) (cond (place m) (neg_ℤ (pos m.amount)) (pos m.amount)) in
    ap share (none_at n j) ∙ none_moved (bit_at word i) (place no_move)

zeros_map : (f : ℕ → ℤ) (ms : List ℕ) → ((m : ℕ) → f m ≡ pos 0) → map f ms ≡ replicate (length ms) (pos 0)
zeros_map f [] h = refl
zeros_map f (m ∷ ms) h = ap₂ ◌∷◌ (h m) (zeros_map f ms h)

zeros_append : (a b : ℕ) → replicate a (pos 0) ++ replicate b (pos 0) ≡ replicate (a + b) (pos 0)
zeros_append zero b = ap (λ n. replicate n (pos 0)) (let same : b ≡ 0 + b = omega arith in same)
zeros_append (suc a) b =
    ap (λ l. pos 0 ∷ l) (zeros_append a b) ∙ ap (λ n. replicate n (pos 0)) (let more : suc (a + b) ≡ suc a + b = omega arith in more)

zeros_listed : (f : ℕ → ℕ → ℤ) (g : ℕ → List ℕ) (js : List ℕ) → ((j m : ℕ) → f j m ≡ pos 0) → listed (λ j. map (f j) (g j)) js ≡ replicate (sum_by (λ j. length (g j)) js) (pos 0)
zeros_listed f g [] h = refl
zeros_listed f g (j ∷ js) h =
    ap₂ ◌++◌ (zeros_map (f j) (g j) (h j)) (zeros_listed f g js h) ∙ zeros_append (length (g j)) (sum_by (λ k. length (g k)) js) ∙ ap (λ n. replicate n (pos 0)) (sym (sum_by-cons (λ k. length (g k)) j js))

unsplit_same : (r : Rows) (soft : List ℤ) (word : List Bool) → view_of r (file_of (unsplit_view r soft word)) ≡ unsplit_view r soft word
unsplit_same r soft word =
    let code = code_of r in
    let view = unsplit_view r soft word in
    let with_shares : List ℤ → View = λ l. record { rows = view.rows; scale = view.scale; soft = view.soft; bits = view.bits; shares = l; split = view.split } in
    let split = placed_of code word 1 (replicate code.checks no_move) in
    ap with_shares (zeros_listed split.share (members code) (upto code.checks) (share_none code word code.checks))

pub same_view_lem : SameViewLaw
same_view_lem r soft word = (unsplit_same r soft word, λ scale ms. refl, λ scale shares. refl)
