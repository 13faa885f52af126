-- Correlations of pieces of two frames, and of the known places of a frame.
use Rattle.std.proofs.Common.{◌≡◌, ℕ, zero, suc, ◌+◌, ◌-◌, ◌*◌, ◌<◌, ◌≤◌, Bool, true, false, not, List, sym, ap, ◌∙◌, arith}
use Rattle.std.specs.List.{range_with_len}
use Rattle.s2_mode.specs.Mode.{Mode, IsMode, slots_of, pilot_blocks_of, symbols_in}
use Rattle.s2_mode.specs.declared.symbols.Symbol.{Symbol}
use Rattle.s2_mode.specs.Symbols.{symbol_at}
use Rattle.s2_mode.proofs.Modes.{frame_sizes}
use Rattle.s2_report.specs.declared.figures.Correlation.{Correlation}
use Rattle.s2_message.specs.Correlation.{correlation, correlation_at, plus, sum_over}
use Rattle.s2_message.specs.Errors.{is_known, known_places, payload_places}
use Rattle.s2_message.proofs.Places.{in_header, in_block, in_slots, blocks_fit, rest_unknown}
use Rattle.s2_message.proofs.CorrelationSums.{summed, summed_is, summed_same, chosen, chosen_is, none_pass, all_pass, first_pass, both_parts}

-- the correlation of pieces is a sum over the places of the frames
pub piece_sum : (at m n : ℕ) (received sent xs ys : List Symbol) → m ≡ n
    → ((k : ℕ) → k < n → symbol_at xs k ≡ symbol_at received (at + k)) → ((k : ℕ) → k < n → symbol_at ys k ≡ symbol_at sent (at + k))
    → sum_over (correlation_at xs ys) (range_with_len 0 m) ≡ summed (λ k. correlation_at received sent (at + k)) n
piece_sum at m n received sent xs ys long left right =
    ap (λ l. sum_over (correlation_at xs ys) (range_with_len 0 l)) long
    ∙ (summed_is (correlation_at xs ys) n
    ∙ summed_same (correlation_at xs ys) (λ k. correlation_at received sent (at + k)) n (λ k lt t. correlation (left k lt t) (right k lt t)))

-- ---- the known places

pub header_sum : (m : Mode) (f : ℕ → Correlation) → chosen (is_known m) f 90 ≡ summed f 90
header_sum m f = first_pass (is_known m) f 90 (in_header m)

pub block_sum : (m : Mode) (f : ℕ → Correlation) (block : ℕ) → m.pilots ≡ true
    → chosen (is_known m) f (90 + 1476 * (block + 1)) ≡ plus (chosen (is_known m) f (90 + 1476 * block)) (summed (λ k. f (90 + 1476 * block + 1440 + k)) 36)
block_sum m f block e =
    let at = 90 + 1476 * block in
    let end : 90 + 1476 * (block + 1) ≡ at + 1440 + 36 = omega arith in
    let slots : chosen (is_known m) f (at + 1440) ≡ chosen (is_known m) f at = none_pass (is_known m) f at 1440 (λ k lt. in_slots m block k e lt) in
    ap (chosen (is_known m) f) end
    ∙ (all_pass (is_known m) f (at + 1440) 36 (λ k lt. in_block m block k e lt)
    ∙ ap (λ c. plus c (summed (λ k. f (at + 1440 + k)) 36)) slots)

rest_sum : (m : Mode) (f : ℕ → Correlation) → IsMode m → chosen (is_known m) f (symbols_in m) ≡ chosen (is_known m) f (90 + 1476 * pilot_blocks_of m)
rest_sum m f is =
    let at = 90 + 1476 * pilot_blocks_of m in
    let fit : 16 * pilot_blocks_of m ≤ slots_of m = blocks_fit m is in
    let whole : symbols_in m ≡ 90 + 90 * slots_of m + 36 * pilot_blocks_of m = (frame_sizes m is).symbols in
    let end : symbols_in m ≡ at + (symbols_in m - at) = omega arith in
    ap (chosen (is_known m) f) end
    ∙ none_pass (is_known m) f at (symbols_in m - at) (λ k lt. rest_unknown m k is (omega arith))

pub known_sum : (m : Mode) (f : ℕ → Correlation) → IsMode m → chosen (is_known m) f (90 + 1476 * pilot_blocks_of m) ≡ sum_over f (known_places m)
unfolding known_places
known_sum m f is = sym (chosen_is (is_known m) f (symbols_in m) ∙ rest_sum m f is)

-- and the others
pub payload_sum : (m : Mode) (f : ℕ → Correlation) → plus (sum_over f (known_places m)) (sum_over f (payload_places m)) ≡ sum_over f (range_with_len 0 (symbols_in m))
unfolding known_places payload_places
payload_sum m f = both_parts (is_known m) f (range_with_len 0 (symbols_in m))
