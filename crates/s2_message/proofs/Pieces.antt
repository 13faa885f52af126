-- Squared distances of pieces of two frames.
use Rattle.std.proofs.Common.{◌≡◌, ℕ, ◌+◌, ◌<◌, List, drop, ap, ◌∙◌, pos}
use Rattle.std.specs.List.{range_with_len, sum_by}
use Rattle.std.proofs.lemmas.List.{get_or-take, get_or-drop}
use Rattle.s2_mode.specs.declared.symbols.Symbol.{Symbol}
use Rattle.s2_mode.specs.Symbols.{symbol, symbol_at}
use Rattle.s2_message.specs.Errors.{squared_distance, error_at}
use Rattle.s2_message.proofs.Sums.{summed, summed_is, summed_same}
use borrow.Rule.Slice.PartMut.{mid_of}

-- a symbol of a piece of n symbols
pub piece_at : (at n k : ℕ) (xs : List Symbol) → k < n → symbol_at (mid_of at n xs) k ≡ symbol_at xs (at + k)
piece_at at n k xs lt =
    get_or-take n (drop at xs) k (symbol (pos 0) (pos 0)) lt ∙ get_or-drop at xs k (symbol (pos 0) (pos 0))

-- the sum over pieces is a sum over the places of the frames
pub piece_error : (at m n : ℕ) (received sent xs ys : List Symbol) → m ≡ n
    → ((k : ℕ) → k < n → symbol_at xs k ≡ symbol_at received (at + k)) → ((k : ℕ) → k < n → symbol_at ys k ≡ symbol_at sent (at + k))
    → sum_by (error_at xs ys) (range_with_len 0 m) ≡ summed (λ k. error_at received sent (at + k)) n
piece_error at m n received sent xs ys long left right =
    ap (λ l. sum_by (error_at xs ys) (range_with_len 0 l)) long
    ∙ (summed_is (error_at xs ys) n
    ∙ summed_same (error_at xs ys) (λ k. error_at received sent (at + k)) n (λ k lt t. squared_distance (left k lt t) (right k lt t)))
