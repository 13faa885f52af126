-- What holds of every mode, since a test computes to true at each: MODCOD 1 to 17, normal frames and short ones, pilots off
-- and on.
use Rattle.std.proofs.Common.{◌≡◌, ◌≢◌, ℕ, zero, suc, ◌+◌, ◌-◌, ◌*◌, ◌/◌, ◌≤◌, Bool, true, false, refl, sym, subst, arith, inl, inr}
use Rattle.std.specs.Prelude.{◌==◌, ◌&&◌, ◌||◌, nat_le, if◌then◌else◌}
use Rattle.std.proofs.lemmas.Bool.{eqb-true, leb-true, ne_eqb}
use Rattle.std.proofs.lemmas.Bool.Decides.{eqb_tells}
use Rattle.s2_mode.specs.Shape.{IsShape}
use Rattle.s2_mode.specs.Mode.{Mode, mode_of, IsMode, modulation_of, is_qpsk, rate_index, rate_of, kbch_of, k_of, n_of, t_of, q_of, width_of, slots_of, pilot_blocks_of, symbols_in, shape_in, HasCodeSizes, HasFrameSizes}

-- ---- every mode

-- a test passes at 1 to n
abbrev passes_upto : (ℕ → Bool) → ℕ → Bool
passes_upto test zero = true
passes_upto test (suc n) = test (suc n) && passes_upto test n

both : (a b : Bool) → (a && b) ≡ true → (a ≡ true) × (b ≡ true)
both true b e = (refl, e)
both false b e = (e, absurd (cc))

one_of : (f : Bool → Bool) (b : Bool) → (f false && f true) ≡ true → f b ≡ true
one_of f false e = (both (f false) (f true) e).0
one_of f true e = (both (f false) (f true) e).1

at_number : (test : ℕ → Bool) (n k : ℕ) → passes_upto test n ≡ true → 1 ≤ k → k ≤ n → test k ≡ true
at_number test zero k passes some most = absurd (omega arith)
at_number test (suc n) k passes some most =
    let parts = both (test (suc n)) (passes_upto test n) passes in
    elim (eqb_tells k (suc n)) [
      | inl same ↦ subst (λ j. test j ≡ true) (sym same.1) parts.0
      | inr other ↦ let ne : k ≢ suc n = other.1 in at_number test n k parts.1 some (omega arith)
    ]

-- 9/10 has no short frames
abbrev has_none : ℕ → Bool → Bool
has_none modcod false = false
has_none modcod true = (modcod == 11) || (modcod == 17)

-- a test passes at each MODCOD, where there are frames of this length
abbrev passes_at : (Mode → Bool) → Bool → Bool → Bool
passes_at test short pilots = passes_upto (λ c. has_none c short || test (mode_of c short pilots)) 17

-- a test passes at every mode
abbrev pub passes_all : (Mode → Bool) → Bool
passes_all test = (passes_at test false false && passes_at test false true) && (passes_at test true false && passes_at test true true)

has_some : (modcod : ℕ) (short pilots : Bool) → IsMode (mode_of modcod short pilots) → has_none modcod short ≡ false
has_some modcod false pilots is = refl
has_some modcod true pilots is =
    let held : (modcod ≢ 11) × (modcod ≢ 17) = is.held refl in
    let not_qpsk : modcod ≢ 11 = held.0 in
    let not_psk : modcod ≢ 17 = held.1 in
    rw (ne_eqb modcod 11 not_qpsk, ne_eqb modcod 17 not_psk)

or_else : (a b : Bool) → a ≡ false → (a || b) ≡ true → b ≡ true
or_else true b first e = absurd (cc)
or_else false b first e = e

at_mode : (test : Mode → Bool) (modcod : ℕ) (short pilots : Bool) → passes_at test short pilots ≡ true → IsMode (mode_of modcod short pilots) → test (mode_of modcod short pilots) ≡ true
at_mode test c short pilots passes is =
    or_else (has_none c short) (test (mode_of c short pilots)) (has_some c short pilots is) (at_number (λ c. has_none c short || test (mode_of c short pilots)) 17 c passes is.some is.most)

passes_each : (test : Mode → Bool) (short pilots : Bool) → passes_all test ≡ true → passes_at test short pilots ≡ true
passes_each test false pilots passes =
    let part = both (passes_at test false false && passes_at test false true) (passes_at test true false && passes_at test true true) passes in
    one_of (passes_at test false) pilots part.0
passes_each test true pilots passes =
    let part = both (passes_at test false false && passes_at test false true) (passes_at test true false && passes_at test true true) passes in
    one_of (passes_at test true) pilots part.1

-- what a test shows at each mode that there is, it shows at any
pub at_each : (test : Mode → Bool) (m : Mode) → passes_all test ≡ true → IsMode m → test m ≡ true
at_each test m passes is = at_mode test m.modcod m.short m.pilots (passes_each test m.short m.pilots passes) is

-- two numbers that are equal at each mode
pub equal_at : (f g : Mode → ℕ) (m : Mode) → passes_all (λ m. f m == g m) ≡ true → IsMode m → f m ≡ g m
equal_at f g m passes is = eqb-true (f m) (g m) (at_each (λ m. f m == g m) m passes is)

-- a number that is at most another at each mode
pub at_most_at : (f g : Mode → ℕ) (m : Mode) → passes_all (λ m. nat_le (f m) (g m)) ≡ true → IsMode m → f m ≤ g m
at_most_at f g m passes is = leb-true (f m) (g m) (at_each (λ m. nat_le (f m) (g m)) m passes is)

-- ---- the sizes of the codes

-- the degree of the BCH code's minimal polynomials
abbrev degree : Bool → ℕ
degree short = if short then 14 else 16

check_bits : (m : Mode) → IsMode m → k_of m ≡ kbch_of m + degree m.short * t_of m
unfolding k_of kbch_of t_of rate_of rate_index
check_bits m is = equal_at k_of (λ m. kbch_of m + degree m.short * t_of m) m refl is

groups : (m : Mode) → IsMode m → k_of m ≡ 360 * (k_of m / 360)
unfolding k_of rate_of rate_index
groups m is = equal_at k_of (λ m. 360 * (k_of m / 360)) m refl is

checks : (m : Mode) → IsMode m → n_of m ≡ k_of m + 360 * q_of m
unfolding k_of rate_of rate_index n_of q_of
checks m is = equal_at n_of (λ m. k_of m + 360 * q_of m) m refl is

groups_some : (m : Mode) → IsMode m → 1 ≤ k_of m / 360
unfolding k_of rate_of rate_index
groups_some m is = at_most_at (λ m. 1) (λ m. k_of m / 360) m refl is

q_some : (m : Mode) → IsMode m → 1 ≤ q_of m
unfolding k_of rate_of rate_index n_of q_of
q_some m is = at_most_at (λ m. 1) q_of m refl is

t_least : (m : Mode) → IsMode m → 8 ≤ t_of m
unfolding t_of rate_of rate_index
t_least m is = at_most_at (λ m. 8) t_of m refl is

t_most : (m : Mode) → IsMode m → t_of m ≤ 12
unfolding t_of rate_of rate_index
t_most m is = at_most_at t_of (λ m. 12) m refl is

n_most : (m : Mode) → IsMode m → n_of m ≤ 64800
unfolding n_of
n_most m is = at_most_at n_of (λ m. 64800) m refl is

field : (m : Mode) → IsMode m → kbch_of m ≡ 80 + 8 * ((kbch_of m - 80) / 8)
unfolding kbch_of rate_of rate_index
field m is = equal_at kbch_of (λ m. 80 + 8 * ((kbch_of m - 80) / 8)) m refl is

field_least : (m : Mode) → IsMode m → 374 ≤ (kbch_of m - 80) / 8
unfolding kbch_of rate_of rate_index
field_least m is = at_most_at (λ m. 374) (λ m. (kbch_of m - 80) / 8) m refl is

field_most : (m : Mode) → IsMode m → (kbch_of m - 80) / 8 ≤ 7264
unfolding kbch_of rate_of rate_index
field_most m is = at_most_at (λ m. (kbch_of m - 80) / 8) (λ m. 7264) m refl is

pub code_sizes : (m : Mode) → IsMode m → HasCodeSizes m
code_sizes m is = record {
  normal_code = λ e. subst (λ short. k_of m ≡ kbch_of m + degree short * t_of m) e (check_bits m is);
  short_code = λ e. subst (λ short. k_of m ≡ kbch_of m + degree short * t_of m) e (check_bits m is);
  groups = groups m is;
  checks = checks m is;
  groups_some = groups_some m is;
  q_some = q_some m is;
  t_least = t_least m is;
  t_most = t_most m is;
  n_most = n_most m is;
  field = field m is;
  field_least = field_least m is;
  field_most = field_most m is;
}

pub valid_shape : (m : Mode) → IsMode m → IsShape (shape_in m)
valid_shape m is =
    let sizes = code_sizes m is in
    record {
      group_some = omega arith;
      group_most = omega arith;
      groups_some = sizes.groups_some;
      q_some = sizes.q_some;
      few = omega (arith, sizes.groups, sizes.checks, sizes.n_most);
    }

-- ---- the code rates

normal_rate : (m : Mode) → IsMode m → (if m.short then 0 else k_of m * (rate_of m).under) ≡ (if m.short then 0 else n_of m * (rate_of m).over)
unfolding k_of n_of rate_of rate_index
normal_rate m is = equal_at (λ m. if m.short then 0 else k_of m * (rate_of m).under) (λ m. if m.short then 0 else n_of m * (rate_of m).over) m refl is

pub code_rate_is : (m : Mode) → IsMode m → m.short ≡ false → k_of m * (rate_of m).under ≡ n_of m * (rate_of m).over
code_rate_is m is normal =
    subst (λ short. (if short then 0 else k_of m * (rate_of m).under) ≡ (if short then 0 else n_of m * (rate_of m).over)) normal (normal_rate m is)

-- ---- the sizes of a frame

payload : (m : Mode) → IsMode m → n_of m ≡ width_of m * (90 * slots_of m)
unfolding n_of width_of is_qpsk modulation_of slots_of
payload m is = equal_at n_of (λ m. width_of m * (90 * slots_of m)) m refl is

slots_least : (m : Mode) → IsMode m → 60 ≤ slots_of m
unfolding n_of width_of is_qpsk modulation_of slots_of
slots_least m is = at_most_at (λ m. 60) slots_of m refl is

slots_most : (m : Mode) → IsMode m → slots_of m ≤ 360
unfolding n_of width_of is_qpsk modulation_of slots_of
slots_most m is = at_most_at slots_of (λ m. 360) m refl is

blocks_below : (m : Mode) → IsMode m → 16 * pilot_blocks_of m + 1 ≤ slots_of m
unfolding n_of width_of is_qpsk modulation_of slots_of pilot_blocks_of
blocks_below m is = at_most_at (λ m. 16 * pilot_blocks_of m + 1) slots_of m refl is

blocks_reach : (m : Mode) → IsMode m → (if m.pilots then slots_of m else 0) ≤ 16 * pilot_blocks_of m + 16
unfolding n_of width_of is_qpsk modulation_of slots_of pilot_blocks_of
blocks_reach m is = at_most_at (λ m. if m.pilots then slots_of m else 0) (λ m. 16 * pilot_blocks_of m + 16) m refl is

no_blocks : (m : Mode) → m.pilots ≡ false → pilot_blocks_of m ≡ 0
unfolding pilot_blocks_of
no_blocks m e = rw e

symbols : (m : Mode) → symbols_in m ≡ 90 + 90 * slots_of m + 36 * pilot_blocks_of m
unfolding symbols_in
symbols m = refl

symbols_most : (m : Mode) → IsMode m → symbols_in m ≤ 33282
unfolding n_of width_of is_qpsk modulation_of slots_of pilot_blocks_of symbols_in
symbols_most m is = at_most_at symbols_in (λ m. 33282) m refl is

pub frame_sizes : (m : Mode) → IsMode m → HasFrameSizes m
frame_sizes m is = record {
  payload = payload m is;
  slots_least = slots_least m is;
  slots_most = slots_most m is;
  blocks = λ e. let below = blocks_below m is in (omega arith, subst (λ pilots. (if pilots then slots_of m else 0) ≤ 16 * pilot_blocks_of m + 16) e (blocks_reach m is));
  no_blocks = no_blocks m;
  symbols = symbols m;
  symbols_most = symbols_most m is;
}
