use Rattle.std.proofs.Common.{◌≡◌, ◌<◌, ℕ, List, map, length, ap, ◌∙◌, arith}
use Rattle.std.proofs.lemmas.List.Elements.{All-same}
use Rattle.std.proofs.lemmas.List.FromFn.{length-range_with_len}
use Rattle.s2_mode.specs.Shape.{code_bits}
use Rattle.s2_matrix.specs.Total.{upto}
use Rattle.s2_matrix.specs.Code.{code_of}
use Rattle.s2_matrix.specs.Code.{first_edge}
use Rattle.s2_matrix.specs.CountingSort.{with_key}
use Rattle.s2_matrix.specs.Joined.{joined}
use Rattle.s2_matrix.specs.Edges.{flat}
use Rattle.s2_matrix.proofs.Flats.{flat_below, length-flat, edges_given}
use Rattle.s2_matrix.proofs.lists.edges.Goals as goal

pub sort_by_key-requires-clause-below : goal.sort_by_key-requires-clause-below
sort_by_key-requires-clause-below c =
    let code = code_of c.args.rows.now in
    let all : c.all-all.result.now ≡ flat code code.checks = c.all-all.ensures ∙ ap joined c.requires.are in
    let bits : c.n-bits.result ≡ code.bits = c.n-bits.ensures.is ∙ ap code_bits c.shape.ensures.is in
    λ k d h. omega (arith, bits, All-same (λ i. i < code.bits) c.all-all.result.now (flat code code.checks) all (flat_below code code.checks) k d h)

pub sort_by_key-requires-clause-values : goal.sort_by_key-requires-clause-values
sort_by_key-requires-clause-values c =
    ap length (c.deref.ensures.value ∙ c.in_ok-numbers.ensures) ∙ length-range_with_len 0 (length c.all-all.result.now)

pub returns : goal.returns
returns c =
    let code = code_of c.args.rows.now in
    let all : c.all-all.result.now ≡ flat code code.checks = c.all-all.ensures ∙ ap joined c.requires.are in
    let bits : c.n-bits.result ≡ code.bits = c.n-bits.ensures.is ∙ ap code_bits c.shape.ensures.is in
    let numbers : c.deref.result.now ≡ upto (first_edge code code.checks) = c.deref.ensures.value ∙ c.in_ok-numbers.ensures ∙ ap upto (ap length all ∙ length-flat code code.checks) in
    c.in_ok-edges.ensures.lists ∙ ap (λ (n : ℕ). map (with_key c.all-all.result.now c.deref.result.now) (upto n)) bits ∙ ap (λ (ks : List ℕ). map (with_key ks c.deref.result.now) (upto code.bits)) all ∙ edges_given code c.deref.result.now numbers
