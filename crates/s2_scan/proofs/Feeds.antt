-- A recording that is read block by block.
use Rattle.std.proofs.Common.{◌≡◌, ℕ, zero, suc, ◌+◌, ◌-◌, ◌*◌, ◌/◌, ◌^◌, ◌<◌, ◌≤◌, Bool, List, [], ◌++◌, Option, None, Some, Ok, Err, length, take, drop, length-append, length-drop, append-nil, append_assoc, ap, sym, ◌∙◌, subst, refl, inl, inr, arith}
use Rattle.std.specs.Io.KnownBytes.{Consumes, IsAtEnd}
use Rattle.std.specs.Prelude.{if◌then◌else◌}
use Rattle.std.proofs.KnownBytes.{Consumes-nil, Consumes-trans}
use Rattle.std.proofs.lemmas.Bool.{cases_lt, lt-ltb, le-ltb}
use Rattle.std.proofs.lemmas.List.{length-take-le, take-append-le, drop-append-le, drop-drop, drop_at, drop-take, take_all}
use Rattle.std.proofs.Math.Seq.{take-append-add}
use Rattle.s2_io.specs.declared.fault.Fault.TheVariants as faults
use Rattle.s2_scan.specs.Inside.{Fed, Filled}
use Rattle.s2_scan.specs.Passing.{passes_at, passes_below, positions_in, window_at}
use Rattle.s2_scan.specs.Pilots.{front_bytes, front_of}
use Rattle.s2_scan.specs.Scanning.{AreSeen, IsRecording, max_bytes, recorded}
use Rattle.s2_scan.specs.declared.passes.Pass.{Pass}
use Rattle.s2_scan.proofs.Ranges.{flat_more}

-- one more position
position_more : (first : ℕ) (bytes : List ℕ) (n : ℕ) → passes_below first bytes (n + 1) ≡ passes_below first bytes n ++ passes_at (first + n) (window_at n bytes)
unfolding passes_below
position_more first bytes n = sym (flat_more (λ p. passes_at (first + p) (window_at p bytes)) [] n)

no_position : (first : ℕ) (bytes : List ℕ) → passes_below first bytes 0 ≡ []
unfolding passes_below
no_position first bytes = refl

-- what comes later changes no position before
window_same : (bytes more : List ℕ) (p : ℕ) → 4 * p + 360 ≤ length bytes → window_at p (bytes ++ more) ≡ window_at p bytes
window_same bytes more p le =
    let there : 4 * p ≤ length bytes = omega arith in
    let long : 360 ≤ length (drop (4 * p) bytes) = omega (arith, length-drop (4 * p) bytes) in
    ap (take 360) (drop-append-le (4 * p) bytes more there) ∙ take-append-le 360 (drop (4 * p) bytes) more long

pub passes_same : (bytes more : List ℕ) (n : ℕ) → (1 ≤ n → 4 * n + 356 ≤ length bytes) → passes_below 0 (bytes ++ more) n ≡ passes_below 0 bytes n
passes_same bytes more zero le = no_position 0 (bytes ++ more) ∙ sym (no_position 0 bytes)
passes_same bytes more (suc n) le =
    let next : suc n ≡ n + 1 = omega arith in
    let some : 1 ≤ suc n = omega arith in
    let long : 4 * suc n + 356 ≤ length bytes = le some in
    let before = passes_same bytes more n (λ _. omega arith) in
    let here = window_same bytes more n (omega arith) in
    ap (passes_below 0 (bytes ++ more)) next
    ∙ (position_more 0 (bytes ++ more) n ∙ ((λ t. before t ++ passes_at (0 + n) (here t)) ∙ (sym (position_more 0 bytes n) ∙ ap (passes_below 0 bytes) (sym next))))

-- the positions of a block behind those before it
pub passes_joined : (bytes : List ℕ) (first n : ℕ) → passes_below 0 bytes first ++ passes_below first (drop (4 * first) bytes) n ≡ passes_below 0 bytes (first + n)
passes_joined bytes first zero =
    let same : first ≡ first + 0 = omega arith in
    ap (λ ps. passes_below 0 bytes first ++ ps) (no_position first (drop (4 * first) bytes)) ∙ (append-nil (passes_below 0 bytes first) ∙ ap (passes_below 0 bytes) same)
passes_joined bytes first (suc n) =
    let next : suc n ≡ n + 1 = omega arith in
    let last : first + n + 1 ≡ first + suc n = omega arith in
    let inside : 4 * first + 4 * n ≡ 4 * (first + n) = omega arith in
    let place : first + n ≡ 0 + (first + n) = omega arith in
    let block = drop (4 * first) bytes in
    let window : window_at n block ≡ window_at (first + n) bytes = ap (take 360) (drop-drop (4 * n) (4 * first) bytes ∙ ap (λ k. drop k bytes) inside) in
    ap (λ k. passes_below 0 bytes first ++ passes_below first block k) next
    ∙ (ap (λ ps. passes_below 0 bytes first ++ ps) (position_more first block n)
    ∙ (sym (append_assoc (passes_below 0 bytes first) (passes_below first block n) (passes_at (first + n) (window_at n block)))
    ∙ ((λ t. passes_joined bytes first n t ++ passes_at (place t) (window t)) ∙ (sym (position_more 0 bytes (first + n)) ∙ ap (passes_below 0 bytes) last))))

-- the first bytes of bytes, with those of the bytes after them
front_more : (bytes piece : List ℕ) → front_of bytes ++ take (front_bytes - length (front_of bytes)) piece ≡ front_of (bytes ++ piece)
front_more bytes piece = elim (cases_lt front_bytes (length bytes)) [
  | inl less ↦
      let size : length (front_of bytes) ≡ front_bytes = length-take-le front_bytes bytes (omega arith) in
      let none : front_bytes - length (front_of bytes) ≡ 0 = omega (arith, size) in
      ap (λ n. front_of bytes ++ take n piece) none ∙ (append-nil (front_of bytes) ∙ sym (take-append-le front_bytes bytes piece (omega arith)))
  | inr more ↦
      let all : front_of bytes ≡ bytes = take_all front_bytes bytes more in
      let parts : length bytes + (front_bytes - length bytes) ≡ front_bytes = omega arith in
      (λ t. all t ++ take (front_bytes - length (all t)) piece) ∙ (sym (take-append-add bytes piece (front_bytes - length bytes)) ∙ ap (λ n. take n (bytes ++ piece)) parts)
]

-- ---- a block more

-- the bytes read so far, with those of the next block
module _ (origin old new : Option (List ℕ)) (before after : List ℕ) (held total first : ℕ) (passes : List Pass) (front : List ℕ) (fed : Fed origin old before held first passes front) (filled : Filled old new before after held total) where
  abbrev pub read : List ℕ
  read = fed.bytes ++ filled.piece

  pub taken_on : Consumes origin new read
  taken_on = Consumes-trans origin old new fed.bytes filled.piece fed.consumed filled.consumed

  pub size_on : length read ≡ 4 * first + total
  size_on = omega (arith, length-append fed.bytes filled.piece, fed.size, filled.size)

  pub block_is : take total after ≡ drop (4 * first) read
  block_is =
      let there : 4 * first ≤ length fed.bytes = omega (arith, fed.size) in
      filled.joined ∙ (ap (λ front. front ++ filled.piece) fed.kept ∙ sym (drop-append-le (4 * first) fed.bytes filled.piece there))

  found_on : passes ≡ passes_below 0 read first
  found_on = fed.found ∙ sym (passes_same fed.bytes filled.piece first (λ some. long some))
    where
      long : 1 ≤ first → 4 * first + 356 ≤ length fed.bytes
      long some = elim (cases_lt held 356) [
        | inl less ↦ let none : first ≡ 0 = fed.early less in absurd (omega (arith, none, some))
        | inr more ↦ omega (arith, fed.size, more)
      ]

  block_size : length (take total after) ≡ total
  block_size = ap length block_is ∙ (length-drop (4 * first) read ∙ omega (arith, size_on))

  pub found_all : passes ++ passes_below first (take total after) (positions_in (take total after)) ≡ passes_below 0 read (first + (total / 4 - 89))
  found_all =
      let many : positions_in (take total after) ≡ total / 4 - 89 = ap (λ n. n / 4 - 89) block_size in
      (λ t. found_on t ++ passes_below first (block_is t) (many t)) ∙ passes_joined read first (total / 4 - 89)

  count_is : length read / 4 - 89 ≡ first + (total / 4 - 89)
  count_is = elim (cases_lt held 356) [
    | inl less ↦ let none : first ≡ 0 = fed.early less in omega (arith, size_on, none)
    | inr more ↦ omega (arith, size_on, more, filled.size)
  ]

  -- the first bytes, with those of this block
  abbrev pub front_on : List ℕ
  front_on = front ++ take (front_bytes - length front) (take (total - held) (drop held after))

  pub begun_on : held ≤ length before → front_on ≡ front_of read
  begun_on room =
      let parts : held + (total - held) ≡ total = omega (arith, filled.size) in
      let size : length (take held before) ≡ held = length-take-le held before room in
      let piece : take (total - held) (drop held after) ≡ filled.piece = sym (drop-take held (total - held) after) ∙ (ap (λ n. drop held (take n after)) parts ∙ (ap (drop held) filled.joined ∙ drop_at (take held before) filled.piece held size)) in
      (λ t. fed.begun t ++ take (front_bytes - length (fed.begun t)) (piece t)) ∙ front_more fed.bytes filled.piece

  -- the recording ends with this block
  pub ends : total < 33124 → first + 8192 ≤ 2 ^ 40 → held ≤ length before → IsAtEnd new → (found : List Pass) → found ≡ passes ++ passes_below first (take total after) (positions_in (take total after))
      → (begin : List ℕ) → begin ≡ front_on → AreSeen origin found begin
  ends few room inside end found is begin begun = (read, recording origin new taken_on end, is ∙ (found_all ∙ ap (passes_below 0 read) (sym count_is)), begun ∙ begun_on inside)
    where
      short : length read < max_bytes
      short = omega (arith, size_on, few, room)

      recording : (origin new : Option (List ℕ)) → Consumes origin new read → IsAtEnd new → IsRecording origin (Ok read)
      recording None new took end = tt
      recording (Some xs) None took end = absurd took
      recording (Some xs) (Some ys) took end =
          let whole : xs ≡ read = took ∙ (ap (λ rest. read ++ rest) end ∙ append-nil read) in
          ap recorded whole ∙ ap (λ (b : Bool). if b then Ok read else Err faults.TooLong) (lt-ltb (length read) max_bytes short)

  -- it goes on
  pub goes_on : total ≡ 33124 → length after ≡ 33124 → held ≤ length before → (block : List ℕ) → take 356 block ≡ drop 32768 after → (found : List Pass)
      → found ≡ passes ++ passes_below first (take total after) (positions_in (take total after))
      → (begin : List ℕ) → begin ≡ front_on → Fed origin new block 356 (first + 8192) found begin
  goes_on full room inside block kept found is begin begun = record {
    bytes = read;
    consumed = taken_on;
    size = omega (arith, size_on, full);
    kept =
        let all : take total after ≡ after = take_all total after (omega arith) in
        let place : 4 * first + 32768 ≡ 4 * (first + 8192) = omega arith in
        kept ∙ (ap (drop 32768) (sym all ∙ block_is) ∙ (drop-drop 32768 (4 * first) read ∙ ap (λ k. drop k read) place));
    found =
        let many : first + (total / 4 - 89) ≡ first + 8192 = omega (arith, full) in
        is ∙ (found_all ∙ ap (passes_below 0 read) many);
    early = λ less. absurd (omega arith);
    begun = begun ∙ begun_on inside;
  }

-- nothing is read yet
pub none_fed : (origin : Option (List ℕ)) (block : List ℕ) (held first : ℕ) (passes : List Pass) (front : List ℕ) → held ≡ 0 → first ≡ 0 → passes ≡ [] → front ≡ [] → Fed origin origin block held first passes front
none_fed origin block held first passes front none start empty fresh = record {
  bytes = [];
  consumed = Consumes-nil origin;
  size = omega (arith, none, start);
  kept = ap (λ n. take n block) none ∙ sym (ap (λ n. drop (4 * n) []) start);
  found = empty ∙ sym (no_position 0 [] ∙ refl) ∙ ap (passes_below 0 []) (sym start);
  early = λ _. start;
  begun = fresh;
}

-- a recording that does not end after all blocks is too long
pub too_long : (origin rest : Option (List ℕ)) (block : List ℕ) (held first : ℕ) (passes : List Pass) (front : List ℕ) → Fed origin rest block held first passes front → first ≡ 2 ^ 40 → IsRecording origin (Err faults.TooLong)
too_long None rest block held first passes front fed all = tt
too_long (Some xs) None block held first passes front fed all = absurd fed.consumed
too_long (Some xs) (Some ys) block held first passes front fed all =
    let full : 356 ≤ held = elim (cases_lt held 356) [ inl less ↦ let none : first ≡ 0 = fed.early less in absurd (omega (arith, none, all)) | inr more ↦ more ] in
    let long : max_bytes ≤ length xs = omega (arith, fed.size, all, full, ap length fed.consumed, length-append fed.bytes ys) in
    ap (λ (b : Bool). if b then Ok xs else Err faults.TooLong) (le-ltb (length xs) max_bytes long)

-- the same, by equal numbers and passes
pub fed_as : (origin rest : Option (List ℕ)) (block : List ℕ) (held held' first first' : ℕ) (passes passes' : List Pass) (front front' : List ℕ) → held' ≡ held → first' ≡ first → passes' ≡ passes → front' ≡ front
    → Fed origin rest block held first passes front → Fed origin rest block held' first' passes' front'
fed_as origin rest block held held' first first' passes passes' front front' p q r s fed =
    subst (λ (h : ℕ). Fed origin rest block h first' passes' front') (sym p)
    (subst (λ (f : ℕ). Fed origin rest block held f passes' front') (sym q)
    (subst (λ (ps : List Pass). Fed origin rest block held first ps front') (sym r) (subst (λ (xs : List ℕ). Fed origin rest block held first passes xs) (sym s) fed)))
