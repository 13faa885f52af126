-- The table of modes (EN 302 307-1, tables 5a, 5b, 12 and 13): a line for each code rate, and a line for each MODCOD.
use Rattle.std.specs.Prelude.{ℕ, ℤ, pos, neg_ℤ, List, [], ◌∷◌, ◌++◌, codes, decimal}
use Rattle.s2_mode.specs.declared.rates.Sizes.{Sizes}
use Rattle.s2_mode.specs.declared.modcods.Modcod.{Modcod}
use Rattle.s2_mode.specs.declared.modcods.Modulation.{Modulation}
use Rattle.s2_mode.specs.declared.modcods.Modulation.TheVariants as modulations

-- a code rate in lowest terms, and the sizes of its codes
pub record CodeRate : Type 0 where
  pub over : ℕ
  pub under : ℕ
  pub sizes : Sizes

-- the sizes of no code
abbrev pub no_sizes : Sizes
no_sizes = record { kbch = 0; k = 0; t = 0; short_kbch = 0; short_k = 0 }

-- the line of a code rate: Kbch, k = Nbch and t of normal frames, and Kbch and k of short ones, whose t is 12
abbrev pub rate : ℕ → ℕ → ℕ → ℕ → ℕ → ℕ → ℕ → CodeRate
rate over under kbch k t short_kbch short_k =
    record { over = over; under = under; sizes = record { kbch = kbch; k = k; t = t; short_kbch = short_kbch; short_k = short_k } }

-- the code rates; the last has no short frames
abbrev pub rates : List CodeRate
rates =
    rate 1 4 16008 16200 12 3072 3240
    ∷ rate 1 3 21408 21600 12 5232 5400
    ∷ rate 2 5 25728 25920 12 6312 6480
    ∷ rate 1 2 32208 32400 12 7032 7200
    ∷ rate 3 5 38688 38880 12 9552 9720
    ∷ rate 2 3 43040 43200 10 10632 10800
    ∷ rate 3 4 48408 48600 12 11712 11880
    ∷ rate 4 5 51648 51840 12 12432 12600
    ∷ rate 5 6 53840 54000 10 13152 13320
    ∷ rate 8 9 57472 57600 8 14232 14400
    ∷ rate 9 10 58192 58320 8 0 0
    ∷ []

-- a code rate as it is written: 3/4
unfoldable pub code_rate_text : CodeRate → List ℕ
code_rate_text rate = decimal rate.over ++ codes "/" ++ decimal rate.under

-- The line of a MODCOD. It has its constellation, the place of its code rate, and its ideal Es/N0 in hundredths of a dB.
-- Quasi error free reception begins there over a channel with noise alone
abbrev pub line : Modulation → ℕ → ℤ → Modcod
line modulation rate_index ideal =
    record { modulation = modulation; rate_index = rate_index; ideal = ideal }

-- MODCOD 1 to 17: QPSK 1/4 to 9/10, then 8PSK 3/5, 2/3, 3/4, 5/6, 8/9, 9/10
abbrev pub modcods : List Modcod
modcods =
    line modulations.Qpsk 0 (neg_ℤ (pos 235))
    ∷ line modulations.Qpsk 1 (neg_ℤ (pos 124))
    ∷ line modulations.Qpsk 2 (neg_ℤ (pos 30))
    ∷ line modulations.Qpsk 3 (pos 100)
    ∷ line modulations.Qpsk 4 (pos 223)
    ∷ line modulations.Qpsk 5 (pos 310)
    ∷ line modulations.Qpsk 6 (pos 403)
    ∷ line modulations.Qpsk 7 (pos 468)
    ∷ line modulations.Qpsk 8 (pos 518)
    ∷ line modulations.Qpsk 9 (pos 620)
    ∷ line modulations.Qpsk 10 (pos 642)
    ∷ line modulations.Psk8 4 (pos 550)
    ∷ line modulations.Psk8 5 (pos 662)
    ∷ line modulations.Psk8 6 (pos 791)
    ∷ line modulations.Psk8 8 (pos 935)
    ∷ line modulations.Psk8 9 (pos 1069)
    ∷ line modulations.Psk8 10 (pos 1098)
    ∷ []
