-- What comes to the joiner in two parts.
use Rattle.std.proofs.Common.{◌≡◌, ℕ, ◌+◌, ◌≤◌, List, [], ◌∷◌, ◌++◌, Option, Some, None, sym, ap, ◌∙◌, append_assoc, append-nil, arith}
use Rattle.s2_bbframe.specs.Joining.{Event, Joined, step, still, begun_body, incomplete, and_then, joining}

and_then-assoc : (a b c : Joined) → and_then (and_then a b) c ≡ and_then a (and_then b c)
and_then-assoc a b c =
    let e : (a.bad + b.bad) + c.bad ≡ a.bad + (b.bad + c.bad) = omega arith in
    let join : List (List ℕ) → ℕ → Joined = λ g n. record { held = c.held; good = g; bad = n } in
    ap (λ n. join ((a.good ++ b.good) ++ c.good) n) e ∙ ap (λ g. join g (a.bad + (b.bad + c.bad))) (append_assoc a.good b.good c.good)

pub none-and_then : (held : Option (List ℕ)) (j : Joined) → and_then (still held) j ≡ j
none-and_then held j =
    let e : 0 + j.bad ≡ j.bad = omega arith in
    let join : ℕ → Joined = λ n. record { held = j.held; good = j.good; bad = n } in
    ap join e

and_then-none : (j : Joined) → and_then j (still j.held) ≡ j
and_then-none j =
    let e : j.bad + 0 ≡ j.bad = omega arith in
    let join : List (List ℕ) → ℕ → Joined = λ g n. record { held = j.held; good = g; bad = n } in
    ap (λ n. join (j.good ++ []) n) e ∙ ap (λ g. join g j.bad) (append-nil j.good)

pub joining-append : (xs ys : List Event) (held : Option (List ℕ)) → joining held (xs ++ ys) ≡ and_then (joining held xs) (joining (joining held xs).held ys)
joining-append [] ys held = sym (none-and_then held (joining held ys))
joining-append (e ∷ xs) ys held =
    ap (and_then (step held e)) (joining-append xs ys (step held e).held)
    ∙ sym (and_then-assoc (step held e) (joining (step held e).held xs) (joining (joining (step held e).held xs).held ys))

pub joining-one : (held : Option (List ℕ)) (e : Event) → joining held (e ∷ []) ≡ step held e
joining-one held e = and_then-none (step held e)

pub incomplete-append : (xs ys : List Event) (held : Option (List ℕ)) → incomplete held (xs ++ ys) ≡ incomplete held xs + incomplete (joining held xs).held ys
incomplete-append [] ys held = omega arith
incomplete-append (e ∷ xs) ys held = omega (arith, incomplete-append xs ys (step held e).held)

pub begun_body-le : (held : Option (List ℕ)) → begun_body held ≤ 1
begun_body-le (Some (byte ∷ body)) = omega arith
begun_body-le (Some []) = omega arith
begun_body-le None = omega arith
