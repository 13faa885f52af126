-- The known places of a frame: the header's, and those of each pilot block.
use Rattle.std.proofs.Common.{◌≡◌, ℕ, zero, suc, ◌+◌, ◌-◌, ◌*◌, ◌%◌, ◌<◌, ◌≤◌, Bool, true, false, not, length, refl, sym, ap, ◌∙◌, arith}
use Rattle.std.specs.Prelude.{nat_le, ◌&&◌}
use Rattle.std.specs.List.{range_with_len, sum_by}
use Rattle.std.proofs.lemmas.Bool.{lt-ltb, le-ltb, le-leb, lt-leb}
use Rattle.std.proofs.lemmas.List.Filters.{sum_by-filter_both, length-filter_both}
use Rattle.std.proofs.lemmas.List.FromFn.{length-range_with_len}
use Rattle.s2_mode.specs.Mode.{Mode, IsMode, slots_of, pilot_blocks_of, symbols_in}
use Rattle.s2_mode.proofs.Modes.{frame_sizes}
use Rattle.s2_message.specs.Errors.{is_known, known_places, payload_places}
use Rattle.s2_message.proofs.Sums.{summed, chosen, chosen_is, ones, none_pass, all_pass, first_pass, summed_ones}

-- ---- one place

pub in_header : (m : Mode) (i : ℕ) → i < 90 → is_known m i ≡ true
in_header m i below = rw (lt-ltb i 90 below) refl

past_header : (m : Mode) (i : ℕ) → 90 ≤ i → is_known m i ≡ (m.pilots && nat_le 1440 ((i - 90) % 1476))
past_header m i above = rw (le-ltb i 90 above) refl

with_pilots : (m : Mode) (i : ℕ) → m.pilots ≡ true → 90 ≤ i → is_known m i ≡ nat_le 1440 ((i - 90) % 1476)
with_pilots m i e above = past_header m i above ∙ ap (λ b. b && nat_le 1440 ((i - 90) % 1476)) e

no_pilots : (m : Mode) (i : ℕ) → m.pilots ≡ false → 90 ≤ i → is_known m i ≡ false
no_pilots m i e above = past_header m i above ∙ ap (λ b. b && nat_le 1440 ((i - 90) % 1476)) e

pub in_slots : (m : Mode) (block k : ℕ) → m.pilots ≡ true → k < 1440 → is_known m (90 + 1476 * block + k) ≡ false
in_slots m block k e lt =
    let i = 90 + 1476 * block + k in
    let above : 90 ≤ i = omega arith in
    let column : (i - 90) % 1476 < 1440 = omega arith in
    with_pilots m i e above ∙ lt-leb 1440 ((i - 90) % 1476) column

pub in_block : (m : Mode) (block k : ℕ) → m.pilots ≡ true → k < 36 → is_known m (90 + 1476 * block + 1440 + k) ≡ true
in_block m block k e lt =
    let i = 90 + 1476 * block + 1440 + k in
    let above : 90 ≤ i = omega arith in
    let column : 1440 ≤ (i - 90) % 1476 = omega arith in
    with_pilots m i e above ∙ le-leb 1440 ((i - 90) % 1476) column

-- ---- sums over them

pub header_sum : (m : Mode) (f : ℕ → ℕ) → chosen (is_known m) f 90 ≡ summed f 90
header_sum m f = first_pass (is_known m) f 90 (in_header m)

pub block_sum : (m : Mode) (f : ℕ → ℕ) (block : ℕ) → m.pilots ≡ true
    → chosen (is_known m) f (90 + 1476 * (block + 1)) ≡ chosen (is_known m) f (90 + 1476 * block) + summed (λ k. f (90 + 1476 * block + 1440 + k)) 36
block_sum m f block e =
    let at = 90 + 1476 * block in
    let end : 90 + 1476 * (block + 1) ≡ at + 1440 + 36 = omega arith in
    let slots : chosen (is_known m) f (at + 1440) ≡ chosen (is_known m) f at = none_pass (is_known m) f at 1440 (λ k lt. in_slots m block k e lt) in
    ap (chosen (is_known m) f) end
    ∙ (all_pass (is_known m) f (at + 1440) 36 (λ k lt. in_block m block k e lt)
    ∙ ap (λ n. n + summed (λ k. f (at + 1440 + k)) 36) slots)

-- the pilot blocks are within the slots
pub blocks_fit : (m : Mode) → IsMode m → 16 * pilot_blocks_of m ≤ slots_of m
blocks_fit m is = by m.pilots refl
  where
    by : (pilots : Bool) → m.pilots ≡ pilots → 16 * pilot_blocks_of m ≤ slots_of m
    by true e = let less : 16 * pilot_blocks_of m < slots_of m = ((frame_sizes m is).blocks e).0 in omega arith
    by false e = let none : pilot_blocks_of m ≡ 0 = (frame_sizes m is).no_blocks e in omega arith

-- a mode with a pilot block has pilots
pub has_pilots : (m : Mode) (block : ℕ) → IsMode m → block < pilot_blocks_of m → m.pilots ≡ true
has_pilots m block is lt = by m.pilots refl
  where
    by : (pilots : Bool) → m.pilots ≡ pilots → m.pilots ≡ true
    by true e = e
    by false e = let none : pilot_blocks_of m ≡ 0 = (frame_sizes m is).no_blocks e in absurd (omega arith)

-- after the last block none is known
pub rest_unknown : (m : Mode) (k : ℕ) → IsMode m → 90 + 1476 * pilot_blocks_of m + k < symbols_in m → is_known m (90 + 1476 * pilot_blocks_of m + k) ≡ false
rest_unknown m k is lt = by m.pilots refl
  where
    by : (pilots : Bool) → m.pilots ≡ pilots → is_known m (90 + 1476 * pilot_blocks_of m + k) ≡ false
    by true e =
        let reach : slots_of m ≤ 16 * pilot_blocks_of m + 16 = ((frame_sizes m is).blocks e).1 in
        let whole : symbols_in m ≡ 90 + 90 * slots_of m + 36 * pilot_blocks_of m = (frame_sizes m is).symbols in
        let small : k < 1440 = omega arith in
        in_slots m (pilot_blocks_of m) k e small
    by false e = let above : 90 ≤ 90 + 1476 * pilot_blocks_of m + k = omega arith in no_pilots m (90 + 1476 * pilot_blocks_of m + k) e above

pub rest_sum : (m : Mode) (f : ℕ → ℕ) → IsMode m → chosen (is_known m) f (symbols_in m) ≡ chosen (is_known m) f (90 + 1476 * pilot_blocks_of m)
rest_sum m f is =
    let at = 90 + 1476 * pilot_blocks_of m in
    let fit : 16 * pilot_blocks_of m ≤ slots_of m = blocks_fit m is in
    let whole : symbols_in m ≡ 90 + 90 * slots_of m + 36 * pilot_blocks_of m = (frame_sizes m is).symbols in
    let end : symbols_in m ≡ at + (symbols_in m - at) = omega arith in
    ap (chosen (is_known m) f) end
    ∙ none_pass (is_known m) f at (symbols_in m - at) (λ k lt. rest_unknown m k is (omega arith))

-- ---- all known places

pub known_sum : (m : Mode) (f : ℕ → ℕ) → IsMode m → chosen (is_known m) f (90 + 1476 * pilot_blocks_of m) ≡ sum_by f (known_places m)
unfolding known_places
known_sum m f is = sym (chosen_is (is_known m) f (symbols_in m) ∙ rest_sum m f is)

count_blocks : (m : Mode) (blocks : ℕ) → m.pilots ≡ true → chosen (is_known m) (λ _. 1) (90 + 1476 * blocks) ≡ 90 + 36 * blocks
count_blocks m zero e = header_sum m (λ _. 1) ∙ summed_ones 90
count_blocks m (suc block) e =
    let before : chosen (is_known m) (λ _. 1) (90 + 1476 * block) ≡ 90 + 36 * block = count_blocks m block e in
    let next : 90 + 1476 * suc block ≡ 90 + 1476 * (block + 1) = omega arith in
    let sum : 90 + 36 * block + 36 ≡ 90 + 36 * suc block = omega arith in
    ap (chosen (is_known m) (λ _. 1)) next ∙ (block_sum m (λ _. 1) block e ∙ ((λ t. before t + summed_ones 36 t) ∙ sum))

count_all : (m : Mode) → IsMode m → chosen (is_known m) (λ _. 1) (90 + 1476 * pilot_blocks_of m) ≡ 90 + 36 * pilot_blocks_of m
count_all m is = by m.pilots refl
  where
    by : (pilots : Bool) → m.pilots ≡ pilots → chosen (is_known m) (λ _. 1) (90 + 1476 * pilot_blocks_of m) ≡ 90 + 36 * pilot_blocks_of m
    by true e = count_blocks m (pilot_blocks_of m) e
    by false e =
        let none : pilot_blocks_of m ≡ 0 = (frame_sizes m is).no_blocks e in
        let front : 90 + 1476 * pilot_blocks_of m ≡ 90 = omega arith in
        let back : 90 ≡ 90 + 36 * pilot_blocks_of m = omega arith in
        ap (chosen (is_known m) (λ _. 1)) front ∙ (header_sum m (λ _. 1) ∙ (summed_ones 90 ∙ back))

pub known_count : (m : Mode) → IsMode m → 90 + 36 * pilot_blocks_of m ≡ length (known_places m)
known_count m is = sym (ones (known_places m) ∙ (sym (known_sum m (λ _. 1) is) ∙ count_all m is))

-- ---- the other places

pub payload_sum : (m : Mode) (f : ℕ → ℕ) → sum_by f (known_places m) + sum_by f (payload_places m) ≡ sum_by f (range_with_len 0 (symbols_in m))
unfolding known_places payload_places
payload_sum m f = sum_by-filter_both (is_known m) (λ i. not (is_known m i)) (λ _. refl) f (range_with_len 0 (symbols_in m))

both_counts : (m : Mode) → length (known_places m) + length (payload_places m) ≡ symbols_in m
unfolding known_places payload_places
both_counts m = length-filter_both (is_known m) (λ i. not (is_known m i)) (λ _. refl) (range_with_len 0 (symbols_in m)) ∙ length-range_with_len 0 (symbols_in m)

pub payload_count : (m : Mode) → IsMode m → 90 * slots_of m ≡ length (payload_places m)
payload_count m is =
    let known : 90 + 36 * pilot_blocks_of m ≡ length (known_places m) = known_count m is in
    let both : length (known_places m) + length (payload_places m) ≡ symbols_in m = both_counts m in
    let whole : symbols_in m ≡ 90 + 90 * slots_of m + 36 * pilot_blocks_of m = (frame_sizes m is).symbols in
    omega arith
