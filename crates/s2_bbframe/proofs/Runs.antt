-- The bytes of a run: a body, its place, and so on.
use Rattle.std.proofs.Common.{◌≡◌, ℕ, suc, ◌+◌, ◌/◌, ◌%◌, ◌≤◌, true, false, List, [], ◌∷◌, ◌++◌, All, length, take, drop, refl, sym, ap, ◌∙◌, append_assoc, append-nil, length-append, length-drop, take-append-drop, arith, cond, eq-eqb, inl, inr}
use Rattle.std.specs.Prelude.{nat_eq}
use Rattle.std.specs.List.{flat_map}
use Rattle.std.proofs.lemmas.Bool.{cases_lt}
use Rattle.std.proofs.lemmas.List.{length_push, take_at, drop_at, take-append-le, drop-append-le}
use Rattle.std.proofs.lemmas.List.Elements.{All-head, All-tail}
use Rattle.s2_bbframe.specs.Crc.{crc8}
use Rattle.s2_bbframe.specs.DataStream.{IsPacket, closed_body}
use Rattle.s2_bbframe.specs.Joining.{Run, run_of, more, closing}
use Rattle.s2_bbframe.proofs.BodySteps.{more-more, run-fill, run-good}

more-none : (r : Run) → more [] 0 r ≡ r
more-none r =
    let e : 0 + r.bad ≡ r.bad = omega arith in
    let join : ℕ → Run = λ b. record { body = r.body; good = r.good; bad = b } in
    ap join e

-- bytes in two parts
pub run-append : (xs ys body : List ℕ) → run_of body (xs ++ ys) ≡ more (run_of body xs).good (run_of body xs).bad (run_of (run_of body xs).body ys)
run-append [] ys body = sym (more-none (run_of body ys))
run-append (x ∷ xs) ys body =
    let one = run_of [] xs in
    let both = run_of [] (xs ++ ys) in
    let ih : both ≡ more one.good one.bad (run_of one.body ys) = run-append xs ys [] in
    let split : Run → Run = λ r. more r.good r.bad (run_of r.body ys) in
    let closes : closing body x both ≡ split (closing body x one) =
    elim (nat_eq x (crc8 body)) as (λ b. cond b (more ((71 ∷ body) ∷ []) 0 both) (more [] 1 both) ≡ split (cond b (more ((71 ∷ body) ∷ []) 0 one) (more [] 1 one))) [
      | true ↦ ap (more ((71 ∷ body) ∷ []) 0) ih ∙ more-more ((71 ∷ body) ∷ []) 0 one.good one.bad (run_of one.body ys)
      | false ↦ ap (more [] 1) ih ∙ more-more [] 1 one.good one.bad (run_of one.body ys)
    ] in
    elim (nat_eq (length body) 187) as (λ b. cond b (closing body x both) (run_of (body ++ x ∷ []) (xs ++ ys)) ≡ split (cond b (closing body x one) (run_of (body ++ x ∷ []) xs))) [
      | true ↦ closes
      | false ↦ run-append xs ys (body ++ x ∷ [])
    ]

closing-body : (body : List ℕ) (x : ℕ) (r : Run) → (closing body x r).body ≡ r.body
closing-body body x r = elim (nat_eq x (crc8 body)) as (λ b. (cond b (more ((71 ∷ body) ∷ []) 0 r) (more [] 1 r)).body ≡ r.body) [ true ↦ refl | false ↦ refl ]

-- how much of a body is held
pub run-length : (xs body : List ℕ) → length body ≤ 187 → length (run_of body xs).body ≡ (length body + length xs) % 188
run-length [] body h = omega arith
run-length (x ∷ xs) body h = elim (cases_lt (length body) 187) [
  | inl k ↦ (let push = length_push body x in
      let ih = run-length xs (body ++ x ∷ []) (omega arith) in
      ap (λ r. length r.body) (run-fill body x xs k) ∙ ih ∙ ap (λ n. n % 188) (omega arith))
  | inr k ↦ (let full : length body ≡ 187 = omega arith in
      let e : nat_eq (length body) 187 ≡ true = eq-eqb (length body) 187 full in
      let ih = run-length xs [] (omega arith) in
      ap (λ t. length (cond t (closing body x (run_of [] xs)) (run_of (body ++ x ∷ []) xs)).body) e ∙ ap length (closing-body body x (run_of [] xs)) ∙ ih ∙ omega arith)
]

-- bytes that fill a body no further than to its end
fills_on : (xs ys body : List ℕ) → length body + length xs ≤ 187 → run_of body (xs ++ ys) ≡ run_of (body ++ xs) ys
fills_on [] ys body h = ap (λ b. run_of b ys) (sym (append-nil body))
fills_on (x ∷ xs) ys body h =
    let push = length_push body x in
    run-fill body x (xs ++ ys) (omega arith) ∙ fills_on xs ys (body ++ x ∷ []) (omega arith) ∙ ap (λ b. run_of b ys) (append_assoc body (x ∷ []) xs)

packet-is : (p : List ℕ) → IsPacket p → 71 ∷ drop 1 p ≡ p
packet-is [] h = absurd (omega (arith, h.0))
packet-is (x ∷ xs) h = ap (λ y. y ∷ xs) (sym h.1)

-- a packet's bytes give the packet
packet-run : (p xs : List ℕ) → IsPacket p → run_of [] (closed_body p ++ xs) ≡ more (p ∷ []) 0 (run_of [] xs)
packet-run p xs h =
    let long : length (drop 1 p) ≡ 187 = omega (arith, length-drop 1 p, h.0) in
    ap (run_of []) (append_assoc (drop 1 p) (crc8 (drop 1 p) ∷ []) xs)
    ∙ fills_on (drop 1 p) (crc8 (drop 1 p) ∷ xs) [] (omega arith)
    ∙ run-good (drop 1 p) (crc8 (drop 1 p)) xs long refl
    ∙ ap (λ q. more (q ∷ []) 0 (run_of [] xs)) (packet-is p h)

pub length_closed : (p : List ℕ) → IsPacket p → length (closed_body p) ≡ 188
length_closed p h = omega (arith, length-append (drop 1 p) (crc8 (drop 1 p) ∷ []), length-drop 1 p, h.0)

-- the front of the packets' bytes gives the packets that are closed in it
pub front-run : (ps : List (List ℕ)) (xs rest : List ℕ) → All IsPacket ps → flat_map closed_body ps ≡ xs ++ rest
    → ((run_of [] xs).good ≡ take (length xs / 188) ps) × ((run_of [] xs).bad ≡ 0)
front-run [] [] rest h e = (refl, refl)
front-run [] (x ∷ xs) rest h e = cc
front-run (p ∷ ps) xs rest h e = elim (cases_lt (length xs) 188) [
  | inl k ↦ (let none : length xs / 188 ≡ 0 = omega arith in
      let r : run_of [] xs ≡ record { body = xs; good = []; bad = 0 } = ap (run_of []) (sym (append-nil xs)) ∙ fills_on xs [] [] (omega arith) in
      (ap (λ r. r.good) r ∙ ap (λ n. take n (p ∷ ps)) (sym none), ap (λ r. r.bad) r))
  | inr k ↦ (let packet : IsPacket p = All-head IsPacket p ps h in
      let long = length_closed p packet in
      let whole = flat_map closed_body ps in
      let first : closed_body p ≡ take 188 xs = sym (take_at (closed_body p) whole 188 long) ∙ ap (take 188) e ∙ take-append-le 188 xs rest k in
      let later : whole ≡ drop 188 xs ++ rest = sym (drop_at (closed_body p) whole 188 long) ∙ ap (drop 188) e ∙ drop-append-le 188 xs rest k in
      let ih = front-run ps (drop 188 xs) rest (All-tail IsPacket p ps h) later in
      let parts : xs ≡ closed_body p ++ drop 188 xs = sym (take-append-drop 188 xs) ∙ ap (λ l. l ++ drop 188 xs) (sym first) in
      let r : run_of [] xs ≡ more (p ∷ []) 0 (run_of [] (drop 188 xs)) = ap (run_of []) parts ∙ packet-run p (drop 188 xs) packet in
      let one_more : suc (length (drop 188 xs) / 188) ≡ length xs / 188 = omega (arith, length-drop 188 xs) in
      (ap (λ r. r.good) r ∙ ap (λ l. p ∷ l) ih.0 ∙ ap (λ n. take n (p ∷ ps)) one_more, ap (λ r. r.bad) r ∙ omega (arith, ih.1)))
]
