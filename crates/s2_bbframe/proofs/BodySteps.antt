-- One byte more of a run.
use Rattle.std.proofs.Common.{◌≡◌, ◌≢◌, ℕ, ◌+◌, ◌*◌, ◌<◌, ◌≤◌, true, false, List, [], ◌∷◌, ◌++◌, length, take, drop, set, get_or, sym, ap, ◌∙◌, append_assoc, append-nil, length-take-le, arith, cond, ne_eqb, eq-eqb}
use Rattle.std.specs.Prelude.{nat_eq}
use Rattle.std.specs.List.{flat_map}
use Rattle.std.proofs.lemmas.List.{drop_more, take_more_set, take_all, length_push}
use Rattle.std.proofs.lemmas.List.Concat.{flat_map-append}
use Rattle.s2_bbframe.specs.Crc.{crc8}
use Rattle.s2_bbframe.specs.Joining.{Run, run_of, more, closing}

pub more-more : (g1 : List (List ℕ)) (b1 : ℕ) (g2 : List (List ℕ)) (b2 : ℕ) (r : Run) → more g1 b1 (more g2 b2 r) ≡ more (g1 ++ g2) (b1 + b2) r
more-more g1 b1 g2 b2 r =
    let e : b1 + (b2 + r.bad) ≡ (b1 + b2) + r.bad = omega arith in
    let join : List (List ℕ) → ℕ → Run = λ g b. record { body = r.body; good = g; bad = b } in
    ap (λ b. join (g1 ++ (g2 ++ r.good)) b) e ∙ ap (λ g. join g ((b1 + b2) + r.bad)) (sym (append_assoc g1 g2 r.good))

pub run-fill : (body : List ℕ) (b : ℕ) (bytes : List ℕ) → length body < 187 → run_of body (b ∷ bytes) ≡ run_of (body ++ b ∷ []) bytes
run-fill body b bytes h =
    let e : nat_eq (length body) 187 ≡ false = ne_eqb (length body) 187 (omega arith) in
    ap (λ t. cond t (closing body b (run_of [] bytes)) (run_of (body ++ b ∷ []) bytes)) e

run-close : (body : List ℕ) (b : ℕ) (bytes : List ℕ) → length body ≡ 187 → run_of body (b ∷ bytes) ≡ closing body b (run_of [] bytes)
run-close body b bytes h =
    let e : nat_eq (length body) 187 ≡ true = eq-eqb (length body) 187 h in
    ap (λ t. cond t (closing body b (run_of [] bytes)) (run_of (body ++ b ∷ []) bytes)) e

pub run-good : (body : List ℕ) (b : ℕ) (bytes : List ℕ) → length body ≡ 187 → b ≡ crc8 body → run_of body (b ∷ bytes) ≡ more ((71 ∷ body) ∷ []) 0 (run_of [] bytes)
run-good body b bytes h k =
    let e : nat_eq b (crc8 body) ≡ true = eq-eqb b (crc8 body) k in
    run-close body b bytes h ∙ ap (λ t. cond t (more ((71 ∷ body) ∷ []) 0 (run_of [] bytes)) (more [] 1 (run_of [] bytes))) e

run-bad : (body : List ℕ) (b : ℕ) (bytes : List ℕ) → length body ≡ 187 → b ≢ crc8 body → run_of body (b ∷ bytes) ≡ more [] 1 (run_of [] bytes)
run-bad body b bytes h k =
    let e : nat_eq b (crc8 body) ≡ false = ne_eqb b (crc8 body) k in
    run-close body b bytes h ∙ ap (λ t. cond t (more ((71 ∷ body) ∷ []) 0 (run_of [] bytes)) (more [] 1 (run_of [] bytes))) e

-- the packets so far, which stand at the front of a buffer, and what the rest gives, are all
abbrev pub HasRead : Run → List ℕ → List ℕ → ℕ → ℕ → List ℕ → Type 0
HasRead all body rest good bad buffer =
    (packets : List (List ℕ)) × (all ≡ more packets bad (run_of body rest)) × (good ≡ length packets) × (take (188 * good) buffer ≡ flat_map (λ p. p) packets)

module _ (all : Run) (held : ℕ) (body bytes : List ℕ) (i good bad : ℕ) (buffer : List ℕ) (within : i < length bytes) (long : length body ≡ 187) where
  pub fills : HasRead all (take held body) (drop i bytes) good bad buffer → held < 187
      → HasRead all (take (held + 1) (set body held (get_or bytes i 0))) (drop (i + 1) bytes) good bad buffer
  fills (packets, whole, count, stand) room =
      let here = drop_more bytes i 0 within in
      let short : length (take held body) < 187 = omega (arith, length-take-le held body (omega arith)) in
      let next = take_more_set body held (get_or bytes i 0) (omega arith) in (
        packets,
        whole ∙ ap (more packets bad) (ap (run_of (take held body)) here ∙ run-fill (take held body) (get_or bytes i 0) (drop (i + 1) bytes) short ∙ ap (λ b. run_of b (drop (i + 1) bytes)) (sym next)),
        count,
        stand,
      )

  pub gives : (buffer' : List ℕ) → HasRead all (take held body) (drop i bytes) good bad buffer → 187 ≤ held → get_or bytes i 0 ≡ crc8 body
      → take (188 * good + 188) buffer' ≡ take (188 * good) buffer ++ (71 ∷ body) → HasRead all [] (drop (i + 1) bytes) (good + 1) bad buffer'
  gives buffer' (packets, whole, count, stand) full right put =
      let here = drop_more bytes i 0 within in
      let same : take held body ≡ body = take_all held body (omega arith) in
      let zero_more : bad + 0 ≡ bad = omega arith in
      let one_more : 188 * (good + 1) ≡ 188 * good + 188 = omega arith in
      let rest = run_of [] (drop (i + 1) bytes) in (
        packets ++ (71 ∷ body) ∷ [],
        whole ∙ ap (more packets bad) (ap (run_of (take held body)) here ∙ ap (λ b. run_of b (get_or bytes i 0 ∷ drop (i + 1) bytes)) same ∙ run-good body (get_or bytes i 0) (drop (i + 1) bytes) long right)
            ∙ more-more packets bad ((71 ∷ body) ∷ []) 0 rest ∙ ap (λ n. more (packets ++ (71 ∷ body) ∷ []) n rest) zero_more,
        omega (arith, length_push packets (71 ∷ body)),
        ap (λ n. take n buffer') one_more ∙ put ∙ ap (λ l. l ++ (71 ∷ body)) stand
            ∙ sym (flat_map-append (λ p. p) packets ((71 ∷ body) ∷ []) ∙ ap (λ l. flat_map (λ p. p) packets ++ l) (append-nil (71 ∷ body))),
      )

  pub drops : HasRead all (take held body) (drop i bytes) good bad buffer → 187 ≤ held → get_or bytes i 0 ≢ crc8 body
      → HasRead all [] (drop (i + 1) bytes) good (bad + 1) buffer
  drops (packets, whole, count, stand) full wrong =
      let here = drop_more bytes i 0 within in
      let same : take held body ≡ body = take_all held body (omega arith) in
      let rest = run_of [] (drop (i + 1) bytes) in (
        packets,
        whole ∙ ap (more packets bad) (ap (run_of (take held body)) here ∙ ap (λ b. run_of b (get_or bytes i 0 ∷ drop (i + 1) bytes)) same ∙ run-bad body (get_or bytes i 0) (drop (i + 1) bytes) long wrong)
            ∙ more-more packets bad [] 1 rest ∙ ap (λ l. more l (bad + 1) rest) (append-nil packets),
        count,
        stand,
      )
