-- Rests as words of 16 bits, each 2^15 higher than it is, and how a check's moves change them (own).
use Rattle.std.specs.Prelude.{ℕ, ◌/◌, ◌==◌, min, max, nat_lt, if◌then◌else◌, List, get_or, count_by}
use Rattle.s2_bits.specs.Lanes16.{minus16, plus16}
use Rattle.s2_minsum.specs.declared.kernels.Circulant.{Circulant}
use Rattle.s2_minsum.specs.Rows.{rotated, cell, entry_at, is_lacking}
use Rattle.s2_settle.specs.declared.course.Step.{Step}

-- the word of a rest of 0
abbrev pub zero_rest : ℕ
zero_rest = 32768

-- the word of a rest of 1, the least that does not lack
abbrev pub least_rest : ℕ
least_rest = 32769

-- how many rests are below 1
abbrev pub lacking : List ℕ → ℕ
lacking = count_by (λ v. nat_lt v least_rest)

-- the input of a member that is missing: the largest word
abbrev pub no_input : ℕ
no_input = 65535

-- what member e of a check gives: its rest once the check has taken its move back
abbrev pub given : ℕ → ℕ → ℕ → ℕ → ℕ
given rest target amount e = if target == e then minus16 rest amount else plus16 rest amount

-- the amount by which one word exceeds another; nothing if it does not
abbrev pub above16 : ℕ → ℕ → ℕ
above16 a b = minus16 (max a b) b

-- the amount that the three least inputs leave free
abbrev pub freed16 : ℕ → ℕ → ℕ → ℕ → ℕ
freed16 margin min1 min2 min3 =
    above16 (minus16 min2 min1) (above16 margin (minus16 min3 min2) / 2) / 2

-- an amount half a step further on from the old one
abbrev pub further16 : ℕ → ℕ → ℕ
further16 old amount =
    above16 (plus16 amount (above16 amount old / 2)) (plus16 (above16 old amount) 1 / 2)

-- the amount of a step, by the old target and amount, the new target and the free amount
abbrev pub moved16 : Step → ℕ → ℕ → ℕ → ℕ → ℕ
moved16 step old_target old_amount target amount =
    if step.further then if old_amount == 0 then amount else if target == old_target then further16 old_amount amount else amount else amount

-- the change of the rest of member e
abbrev pub change : ℕ → ℕ → ℕ → ℕ → ℕ → ℕ
change old_target old_amount target amount e =
    minus16 (if target == e then amount else minus16 0 amount) (if old_target == e then old_amount else minus16 0 old_amount)

-- the place of the least number so far
abbrev pub seen_at : ℕ → ℕ → ℕ → ℕ → ℕ
seen_at at min1 x e = if min min1 x == min1 then at else e

-- the input that the member at entry e gives to the check in lane c, by the targets and amounts of all lanes; the largest
-- word if there is no member
abbrev pub received : ℕ → List Circulant → ℕ → List ℕ → List ℕ → List ℕ → ℕ → ℕ → ℕ
received n entries last rests targets amounts e c =
    if is_lacking last (entry_at entries e) c then no_input else given (cell rests n (entry_at entries e).row (rotated n (entry_at entries e).shift c)) (get_or targets c 0) (get_or amounts c 0) e
