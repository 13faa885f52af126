-- Settling over a code (this project's own: the standard leaves decoding free). It is dual coordinate ascent by layers:
-- each check moves an amount to one of its members from its others, until no bit lacks. A bit lacks if its rest in favour
-- of the word is below 1. Rests count modulo 2^16: the certificate is summed anew in whole numbers.
use Rattle.std.specs.Prelude.{ℕ, zero, suc, ◌+◌, ◌-◌, ◌*◌, ◌/◌, ◌%◌, ◌==◌, ◌&&◌, ◌||◌, min, nat_lt, nat_le, not, Bool, if◌then◌else◌, List, [], ◌∷◌, fold, sum_by, length, count_by, ℤ, pos, neg_ℤ, ◌+ℤ◌, ◌-ℤ◌, ◌*ℤ◌, unsigned_abs, Option, None, Some}
use Rattle.std.specs.Int.{int_rem_euclid}
use Rattle.s2_matrix.specs.Total.{total, upto}
use Rattle.s2_matrix.specs.Code.{Code, members, checks_of}
use Rattle.s2_check.specs.Cost.{value_at}
use Rattle.s2_check.specs.Moves.{in_favour}
use Rattle.s2_minsum.specs.Plain.{others}
use Rattle.s2_settle.specs.declared.course.Course.{Course}
use Rattle.s2_settle.specs.declared.course.Step.{Step}

-- ---- the numbers

-- what a soft value is multiplied by
abbrev pub settling_scale : ℕ
settling_scale = 16

-- few bits lack if at most one in this number does
abbrev pub bits_a_few : ℕ
bits_a_few = 200

-- the first pass before which settling can be given up
abbrev pub first_end : ℕ
first_end = 2

-- settling is given up if the lacking bits have grown by more than this number
abbrev pub max_growth : ℕ
max_growth = 24

-- ---- states

-- the scaled soft value of each bit in favour of the word; of each check the bit that it moves to, and the amount
pub record State : Type 0 where
  pub value : ℕ → ℤ
  pub target : ℕ → ℕ
  pub amount : ℕ → ℕ

-- no moves
abbrev pub start : List ℤ → List Bool → State
start soft word = record {
  value = λ i. in_favour word i (pos settling_scale *ℤ value_at soft i);
  target = λ _. 0;
  amount = λ _. 0;
}

-- the amount by which the move of check j raises the rest of its member i: the target's by the amount, any other's by
-- minus the amount
abbrev pub raise : State → ℕ → ℕ → ℤ
raise s j i = if i == s.target j then pos (s.amount j) else neg_ℤ (pos (s.amount j))

-- the rest of bit i: its value, plus what the moves of its checks raise it by
abbrev pub rest : Code → State → ℕ → ℤ
rest code s i = s.value i +ℤ total (λ j. raise s j i) (checks_of code i)

-- a whole number as a word of 16 bits: 2^15 more, modulo 2^16
abbrev pub word : ℤ → ℕ
word z = unsigned_abs (int_rem_euclid (z +ℤ pos 32768) (pos 65536))

-- whether bit i lacks: its rest is below 1
abbrev pub lacks : Code → State → ℕ → Bool
lacks code s i = nat_lt (word (rest code s i)) 32769

-- how many bits lack
abbrev pub lacking : Code → State → ℕ
lacking code s = count_by (lacks code s) (upto code.bits)

-- ---- the move of a check

-- the input of member i to check j: its rest with the check's own move taken back
abbrev pub input : Code → State → ℕ → ℕ → ℕ
input code s j i = word (rest code s i -ℤ raise s j i)

-- the first of some members whose input is least
abbrev pub least_of : (ℕ → ℕ) → List ℕ → ℕ
least_of f [] = 0
least_of f (m ∷ ms) = fold (λ k i. if nat_lt (f i) (f k) then i else k) m ms

-- the least input of some members; the largest word if there are none
abbrev pub least_input : (ℕ → ℕ) → List ℕ → ℕ
least_input f [] = 65535
least_input f (m ∷ ms) = f (least_of f (m ∷ ms))

-- The amount that the three least inputs a, b and c leave free to be moved to the least. It is half of the gap from a to
-- b, less a reserve: half of what the margin exceeds the gap from b to c by
abbrev pub freed : ℕ → ℕ → ℕ → ℕ → ℕ
freed margin a b c = (b - a - (margin - (c - b)) / 2) / 2

-- the same of some members: of the least input, of the least of the others, and of the least without both
abbrev pub freed_by : ℕ → (ℕ → ℕ) → List ℕ → ℕ
freed_by margin f ms =
    let rest = others ms (least_of f ms) in
    freed margin (least_input f ms) (least_input f rest) (least_input f (others rest (least_of f rest)))

-- over-relaxation: an amount half a step further on from the old one
abbrev pub further : ℕ → ℕ → ℕ
further old amount = amount + (amount - old) / 2 - (old - amount + 1) / 2

abbrev pub new_target : Code → State → ℕ → ℕ
new_target code s j = least_of (input code s j) (members code j)

-- the amount goes further if the step says so, and an amount was moved to the same target
abbrev pub new_amount : Code → Step → State → ℕ → ℕ
new_amount code step s j =
    let amount = freed_by step.margin (input code s j) (members code j) in
    if step.further && (not (s.amount j == 0) && (new_target code s j == s.target j)) then further (s.amount j) amount else amount

-- ---- layers and passes

-- layer r: the checks j with j mod q = r take their moves back and move anew, all by the state before
abbrev pub layer : Code → ℕ → Step → State → ℕ → State
layer code q step s r = record {
  value = s.value;
  target = λ j. if j % q == r then new_target code s j else s.target j;
  amount = λ j. if j % q == r then new_amount code step s j else s.amount j;
}

-- layers 0 to q - 1 in this order
abbrev pub pass : Code → ℕ → Step → State → State
pass code q step s = fold (layer code q step) s (upto q)

-- ---- the course

-- the first margin: two fifths of the mean magnitude of the scaled values
abbrev pub first_margin : List ℤ → ℕ
first_margin soft =
    settling_scale * (sum_by unsigned_abs soft / length soft) * 2 / 5

-- before the first pass no pass is before it
abbrev pub at_first : List ℤ → Course
at_first soft = record { margin = first_margin soft; before = 0 }

-- Before each pass but the first the margin falls to five sixths, and further by the share by which fewer bits lack now
-- than before the pass before
abbrev pub after : Course → ℕ → Course
after c now = record {
  margin = if c.before == 0 then c.margin else c.margin * 5 * min now c.before / (6 * c.before);
  before = now;
}

-- the step of pass p: amounts go further in the first two passes, and as long as fewer bits lack than before
abbrev pub step_at : Course → ℕ → ℕ → Step
step_at c p now =
    record { margin = (after c now).margin; further = nat_lt p 2 || nat_lt now c.before }

-- whether settling is given up before a pass: it is pass `first_end` or a later one, more than few bits lack, and they
-- have grown by more than `max_growth`
abbrev pub is_hopeless : ℕ → ℕ → ℕ → ℕ → Bool
is_hopeless bits p before now =
    nat_le first_end p && (nat_lt (bits / bits_a_few) now && nat_lt (before + max_growth) now)

-- at most n passes from pass p on, until no bit lacks
unfoldable pub passes : Code → ℕ → ℕ → ℕ → Course → State → Option State
passes code q zero p c s = if lacking code s == 0 then Some s else None
passes code q (suc left) p c s =
    if lacking code s == 0 then Some s else
    if is_hopeless code.bits p c.before (lacking code s) then None else
    passes code q left (p + 1) (after c (lacking code s)) (pass code q (step_at c p (lacking code s)) s)
