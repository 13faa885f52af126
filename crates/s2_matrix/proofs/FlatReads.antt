-- What the flat lists of a matrix give.
use Rattle.std.proofs.Common.{◌≡◌, ℕ, ◌≤◌, ◌<◌, List, [], map, length, get_or, All, ap, subst, ◌∙◌}
use Rattle.std.proofs.lemmas.List.{length-map}
use Rattle.std.proofs.lemmas.List.FromFn.{length-range_with_len}
use Rattle.std.proofs.lemmas.List.Elements.{All-filter}
use Rattle.s2_rows.specs.Rows.{Rows}
use Rattle.s2_matrix.specs.Total.{upto}
use Rattle.s2_matrix.specs.Code.{Code, members, checks_of, first_edge}
use Rattle.s2_matrix.proofs.Members.{upto_below}
use Rattle.s2_matrix.specs.CountingSort.{places_before}
use Rattle.s2_matrix.specs.Joined.{joined}
use Rattle.s2_matrix.specs.Edges.{IsMatrix}
use Rattle.s2_matrix.proofs.Flats.{at_upto, flat_first, length-flat}

-- from the fields to the value
pub held : {r value : Rows} {by_check edges checks layers : List (List ℕ)} → r ≡ value → IsMatrix r by_check edges checks layers → IsMatrix value by_check edges checks layers
held {r} {value} {by_check} {edges} {checks} {layers} e is =
    let P : Rows → Type 0 = λ x. IsMatrix x by_check edges checks layers in subst P e is

pub count_is : (f : ℕ → List ℕ) (n : ℕ) (lists : List (List ℕ)) → lists ≡ map f (upto n) → length lists ≡ n
count_is f n lists is = ap length is ∙ length-map (upto n) f ∙ length-range_with_len 0 n

pub row_is : (f : ℕ → List ℕ) (n j : ℕ) (lists : List (List ℕ)) (row : List ℕ) → lists ≡ map f (upto n) → j < n → row ≡ get_or lists j [] → row ≡ f j
row_is f n j lists row is h e = e ∙ ap (λ l. get_or l j []) is ∙ at_upto f n j [] h

pub first_is : (code : Code) (j first : ℕ) (lists : List (List ℕ)) → lists ≡ map (members code) (upto code.checks) → j ≤ code.checks → first ≡ places_before lists j → first ≡ first_edge code j
first_is code j first lists is h e = e ∙ ap (λ l. places_before l j) is ∙ flat_first code code.checks j h

pub all_is : (code : Code) (all : List ℕ) (lists : List (List ℕ)) → lists ≡ map (members code) (upto code.checks) → all ≡ joined lists → length all ≡ first_edge code code.checks
all_is code all lists is e = ap length (e ∙ ap joined is) ∙ length-flat code code.checks

pub checks_below : (code : Code) (i : ℕ) → All (λ j. j < code.checks) (checks_of code i)
checks_below code i = All-filter (λ j. code.has j i) (λ j. j < code.checks) (upto code.checks) (upto_below code.checks)
