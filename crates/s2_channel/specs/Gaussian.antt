-- Gaussian noise (this project's own): how strong it is by Es/N0, and what a component gains by it. Symbols have the energy
-- Es = 2 · 700². The noise of a component has the variance N0/2 before it is rounded to a whole number.
use Rattle.std.specs.Prelude.{Bool, ◌&&◌, nat_le, ℕ, zero, suc, ℤ, pos, negsuc, neg_ℤ, ◌+◌, ◌*◌, ◌/◌, ◌^◌}
use Rattle.s2_channel.specs.Table.{sum_of_squares}

-- the highest Es/N0, 40 dB, in hundredths of a dB above the lowest, -10 dB
abbrev pub max_esn0 : ℕ
max_esn0 = 5000

-- a number of 2^-30, to the nearest whole number, halves up
abbrev pub nearest : ℕ → ℕ
nearest x = (x + 2 ^ 29) / 2 ^ 30

-- at -10 dB: the standard deviation of a component's noise, 700 · 10^(1/2), over that of the sum of eight entries, 8364491.25^(1/2), times 2^30
abbrev pub greatest_amplitude : ℕ
greatest_amplitude = 821822722

-- the factor of an amplitude for an Es/N0 a hundredth of a dB higher: 10^(-1/2000), times 2^30
abbrev pub hundredth : ℕ
hundredth = 1072506344

-- the factor of the sum of eight entries, times 2^30, by the number of hundredths of a dB above -10 dB
unfoldable pub amplitude_at : ℕ → ℕ
amplitude_at zero = greatest_amplitude
amplitude_at (suc n) = nearest (amplitude_at n * hundredth)

-- what a component gains by a sum of eight entries: the sum times the amplitude, to the nearest whole number, halves away from zero
unfoldable pub gaussian_gain : ℕ → ℤ → ℤ
gaussian_gain a (pos drawn) = pos (nearest (drawn * a))
gaussian_gain a (negsuc n) = neg_ℤ (pos (nearest (suc n * a)))

-- The sum of eight entries times this amplitude has the variance N0/2, to 0.001 %. This is the noise of a component before it is rounded.
-- The sum has the variance 8/256 of the sum of squares of all entries, so the product has this times the square of the amplitude, in units
-- of 2^-60. N0/2 is 490000 times 10 for -10 dB, and 10^(1/100) times less for each tenth of a dB. The hundredth powers are
-- compared, which are whole numbers.
unfoldable pub has_variance : ℕ → ℕ → Bool
has_variance tenths a =
    let variance = (100000 * 8 * sum_of_squares * a ^ 2) ^ 100 * 10 ^ tenths in
    let wanted = 256 * 4900000 * 2 ^ 60 in
    nat_le ((99999 * wanted) ^ 100) variance && nat_le variance ((100001 * wanted) ^ 100)
