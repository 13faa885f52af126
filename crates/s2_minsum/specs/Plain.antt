-- Layered min-sum over a code (this project's own: the standard leaves decoding free). Each check sends a message to
-- each of its members; a message above 0 speaks for a zero, one below 0 for a one.
use Rattle.std.specs.Prelude.{ℕ, ◌+◌, ◌-◌, ◌*◌, ◌/◌, ◌%◌, ◌==◌, min, nat_lt, Bool, not, ◌&&◌, if◌then◌else◌, List, map, filter, fold, count_by, get_or, ℤ, pos, neg_ℤ, ◌+ℤ◌, ◌-ℤ◌, int_lt, unsigned_abs}
use Rattle.s2_mode.specs.Limits.{max_soft}
use Rattle.s2_rows.specs.Limits.{max_addresses}
use Rattle.s2_matrix.specs.Total.{total, upto}
use Rattle.s2_matrix.specs.Code.{Code, members, checks_of}
use Rattle.s2_minsum.specs.Factors.{max_factor}

-- ---- the numbers

-- the largest magnitude: that of a larger input counts as this
abbrev pub max_magnitude : ℕ
max_magnitude = 1023

-- f sixteenths of a magnitude, rounded up
abbrev pub reduced : ℕ → ℕ → ℕ
reduced factor m = m - m * (max_factor - factor) / max_factor

-- the largest magnitude of a message, with any factor: a check of one member sends it if magnitudes are kept whole
abbrev pub max_message : ℕ
max_message = max_magnitude

-- the largest magnitude of a posterior: a bit is in at most `max_addresses` checks
abbrev pub max_posterior : ℕ
max_posterior = max_soft + max_addresses * max_message

-- ---- states

-- a soft value for each bit, and a message for each pair of a check and its member
pub record State : Type 0 where
  pub soft : List ℤ
  pub message : ℕ → ℕ → ℤ

-- soft values, and all messages 0
abbrev pub start : List ℤ → State
start soft = record { soft = soft; message = λ _ _. pos 0 }

-- the posterior of bit i: its soft value plus all messages to it
abbrev pub posterior : Code → State → ℕ → ℤ
posterior code s i =
    get_or s.soft i (pos 0) +ℤ total (λ j. s.message j i) (checks_of code i)

-- the hard decision: a one exactly if the posterior is negative
abbrev pub decision : Code → State → List Bool
decision code s = map (λ i. int_lt (posterior code s i) (pos 0)) (upto code.bits)

-- ---- the message of a check to one of its members, by the inputs of the others

-- the input of member i to check j: its posterior less the check's own message to it
abbrev pub input : Code → State → ℕ → ℕ → ℤ
input code s j i = posterior code s i -ℤ s.message j i

-- the other members of a check
abbrev pub others : List ℕ → ℕ → List ℕ
others ms i = filter (λ k. not (k == i)) ms

-- the least of `max_magnitude` and the magnitudes of some inputs
abbrev pub least_magnitude : (ℕ → ℤ) → List ℕ → ℕ
least_magnitude f ms = fold (λ least k. min least (unsigned_abs (f k))) max_magnitude ms

-- whether the product of some inputs is negative, 0 taken as positive
abbrev pub is_product_negative : (ℕ → ℤ) → List ℕ → Bool
is_product_negative f ms = count_by (λ k. int_lt (f k) (pos 0)) ms % 2 == 1

abbrev pub with_sign : Bool → ℕ → ℤ
with_sign negative magnitude = if negative then neg_ℤ (pos magnitude) else pos magnitude

-- the message that the inputs of the other members make: the sign of their product, with 0 as positive, and their least
-- magnitude, at most `max_magnitude`, reduced by a factor
abbrev pub made : ℕ → (ℕ → ℤ) → List ℕ → ℤ
made factor f ms = with_sign (is_product_negative f ms) (reduced factor (least_magnitude f ms))

-- ---- layers

-- whether a bit is a member of a check of the code
abbrev pub is_edge : Code → ℕ → ℕ → Bool
is_edge code j i = nat_lt j code.checks && (nat_lt i code.bits && code.has j i)

-- layer r renews the messages of the checks j with j mod q = r, all by the state before it, and leaves the others
abbrev pub layer : Code → ℕ → ℕ → ℕ → State → State
layer code q factor r s =
    record { soft = s.soft; message = λ j i. if is_edge code j i && (j % q == r) then made factor (input code s j) (others (members code j) i) else s.message j i }

-- a round: layers 0 to q - 1 in this order
abbrev pub round : Code → ℕ → ℕ → State → State
round code q factor s = fold (λ before r. layer code q factor r before) s (upto q)
