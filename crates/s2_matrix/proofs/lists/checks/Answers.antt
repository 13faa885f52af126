use Rattle.std.proofs.Common.{◌≡◌, ◌<◌, ℕ, List, map, length, get_or, [], ap, sym, ◌∙◌, arith}
use Rattle.std.proofs.lemmas.List.{length-map}
use Rattle.std.proofs.lemmas.List.Elements.{All-same}
use Rattle.std.proofs.lemmas.List.FromFn.{length-range_with_len}
use Rattle.s2_mode.specs.Shape.{code_bits}
use Rattle.s2_matrix.specs.Total.{upto}
use Rattle.s2_matrix.specs.Code.{Code, code_of, members}
use Rattle.s2_matrix.specs.CountingSort.{with_key}
use Rattle.s2_matrix.specs.Joined.{joined}
use Rattle.s2_matrix.specs.Edges.{flat, owners}
use Rattle.s2_matrix.proofs.Flats.{flat_below, length-flat, checks_given, few_checks_of, length-owners, at_upto}
use Rattle.s2_matrix.proofs.lists.checks.Goals as goal

count_is : (code : Code) (lists : List (List ℕ)) → lists ≡ map (members code) (upto code.checks) → length lists ≡ code.checks
count_is code lists is = ap length is ∙ length-map (upto code.checks) (members code) ∙ length-range_with_len 0 code.checks

pub owners_of-requires : goal.owners_of-requires
owners_of-requires c =
    omega (arith, count_is (code_of c.args.rows.now) c.args.by_check.now c.requires.are, few_checks_of c.args.rows.now c.shape.ensures.valid)

pub sort_by_key-requires-clause-below : goal.sort_by_key-requires-clause-below
sort_by_key-requires-clause-below c =
    let code = code_of c.args.rows.now in
    let all : c.all.result.now ≡ flat code code.checks = c.all.ensures ∙ ap joined c.requires.are in
    let bits : c.n-bits.result ≡ code.bits = c.n-bits.ensures.is ∙ ap code_bits c.shape.ensures.is in
    λ k d h. omega (arith, bits, All-same (λ i. i < code.bits) c.all.result.now (flat code code.checks) all (flat_below code code.checks) k d h)

pub sort_by_key-requires-clause-values : goal.sort_by_key-requires-clause-values
sort_by_key-requires-clause-values c =
    let code = code_of c.args.rows.now in
    let lists = c.args.by_check.now in
    let all : c.all.result.now ≡ flat code code.checks = c.all.ensures ∙ ap joined c.requires.are in
    let count = count_is code lists c.requires.are in
    ap length (c.deref.ensures.value ∙ c.in_ok-owners.ensures) ∙ ap (λ n. length (owners lists n)) count ∙ length-owners code lists code.checks (λ j h. ap (λ l. get_or l j []) c.requires.are ∙ at_upto (members code) code.checks j [] h) ∙ sym (ap length all ∙ length-flat code code.checks)

pub returns : goal.returns
returns c =
    let code = code_of c.args.rows.now in
    let lists = c.args.by_check.now in
    let all : c.all.result.now ≡ flat code code.checks = c.all.ensures ∙ ap joined c.requires.are in
    let bits : c.n-bits.result ≡ code.bits = c.n-bits.ensures.is ∙ ap code_bits c.shape.ensures.is in
    let values : c.deref.result.now ≡ owners lists code.checks = c.deref.ensures.value ∙ c.in_ok-owners.ensures ∙ ap (owners lists) (count_is code lists c.requires.are) in
    c.in_ok-checks.ensures.lists ∙ ap (λ (n : ℕ). map (with_key c.all.result.now c.deref.result.now) (upto n)) bits ∙ ap (λ (ks : List ℕ). map (with_key ks c.deref.result.now) (upto code.bits)) all ∙ ap (λ (vs : List ℕ). map (with_key (flat code code.checks) vs) (upto code.bits)) values ∙ checks_given code lists c.requires.are
