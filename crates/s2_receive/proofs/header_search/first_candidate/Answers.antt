use Rattle.s2_receive.proofs.Names.{◌≡◌, ◌-◌, by_found, true, ◌∙◌, ◌+◌, ◌≤◌, inl, inr, length, take, drop, false, ap, sym, subst, arith, NextCoded, Sought, found_as}
use Rattle.s2_receive.proofs.LostFrames.{first_found, first_followed, first_refused}
use Rattle.s2_receive.proofs.header_search.first_candidate.Goals.{then-first-gt0-via-then-first-gt0, then-first-gt0-via-else-first-gt0+then-symbols-size}
use Rattle.s2_receive.proofs.header_search.first_candidate.Goals as goal

pub returns-then-first-gt0-clause-candidate : goal.returns-then-first-gt0-clause-candidate
returns-then-first-gt0-clause-candidate c =
    first_found (found_as c.args.search.now.sought c.args.max_header_errors) c.args.size c.args.symbols.now c.args.before c.requires.places.1 c.next_coded-first.result c.next_coded-first.ensures.next
    (elim c.then-first-gt0.branch [
      | then-first-gt0-via-then-first-gt0 w ↦ inl (omega (arith, w.if-first-gt0.true))
      | then-first-gt0-via-else-first-gt0+then-symbols-size w ↦ inr (omega (arith, w.if-symbols-size.true))
    ])

pub returns-clause-candidate : goal.returns-clause-candidate
returns-clause-candidate c =
    let sought = c.args.search.now.sought in
    let errors = c.args.max_header_errors in
    let symbols = c.args.symbols.now in
    let size = c.args.size in
    let many : size + 90 ≤ length symbols = omega (arith, c.if-symbols-size.false) in
    let zero : c.next_coded-first.result ≡ 0 = omega (arith, c.if-first-gt0.false) in
    let first = subst (NextCoded (found_as sought errors) symbols 0 c.args.before) zero c.next_coded-first.ensures.next in
    let all : 90 ≡ length symbols - size = omega (arith, many, c.requires.long) in
    let is : found_as sought errors false (take 90 (drop size symbols)) ≡ c.header_of-found.result =
    ap (λ n. found_as sought errors false (take n (drop size symbols))) all ∙ ap (λ (s : Sought). found_as s errors false (take (length symbols - size) (drop size symbols))) (sym c.next_coded-first.ensures.same) ∙ sym c.header_of-found.ensures.is in
    let next = subst (λ (s : Sought). NextCoded (found_as s errors) symbols 1 c.args.before c.next_coded.result) (c.header_of-found.ensures.same ∙ c.next_coded-first.ensures.same) c.next_coded.ensures.next in
    first_refused (found_as sought errors) size symbols c.args.before c.requires.places.1 many first c.requires.places.0 c.next_coded.result (ap (λ f. by_found f true true false) is ∙ sym c.is_header.ensures ∙ c.if-is_header.false) next

pub returns-then-is_header-clause-candidate : goal.returns-then-is_header-clause-candidate
returns-then-is_header-clause-candidate c =
    let sought = c.args.search.now.sought in
    let errors = c.args.max_header_errors in
    let symbols = c.args.symbols.now in
    let size = c.args.size in
    let many : size + 90 ≤ length symbols = omega (arith, c.if-symbols-size.false) in
    let zero : c.next_coded-first.result ≡ 0 = omega (arith, c.if-first-gt0.false) in
    let first = subst (NextCoded (found_as sought errors) symbols 0 c.args.before) zero c.next_coded-first.ensures.next in
    let all : 90 ≡ length symbols - size = omega (arith, many, c.requires.long) in
    let is : found_as sought errors false (take 90 (drop size symbols)) ≡ c.header_of-found.result =
    ap (λ n. found_as sought errors false (take n (drop size symbols))) all ∙ ap (λ (s : Sought). found_as s errors false (take (length symbols - size) (drop size symbols))) (sym c.next_coded-first.ensures.same) ∙ sym c.header_of-found.ensures.is in
    rw zero (first_followed (found_as sought errors) size symbols c.args.before c.requires.places.1 many first c.requires.places.0 (ap (λ f. by_found f true true false) is ∙ sym c.is_header.ensures ∙ c.if-is_header.true))
