-- The table of Gaussian noise (this project's own): each byte has an entry, and a component's noise is a sum of eight. The entries are nearly
-- normally distributed, so the sum is even more so.
use Rattle.std.specs.Prelude.{Bool, ◌&&◌, nat_lt, nat_le, ℕ, ◌+◌, ◌-◌, ◌*◌, ◌%◌, ◌^◌, ℤ, pos, neg_ℤ, ◌+ℤ◌, List, [], ◌∷◌, get_or, if◌then◌else◌}
use Rattle.std.specs.List.{range_with_len, sum_by}

-- the sizes of the entries, times 1024: the quantiles of a normal distribution at (k + 128.5) / 256 for k from 0 to 125, to the nearest whole
-- number. The last two are chosen so that the fourth and the sixth moments are those of a normal distribution too
abbrev pub sizes : List ℕ
sizes =
    5 ∷ 15 ∷ 25 ∷ 35 ∷ 45 ∷ 55 ∷ 65 ∷ 75 ∷ 85 ∷ 95 ∷ 105 ∷ 116 ∷ 126 ∷ 136 ∷ 146 ∷ 156
    ∷ 166 ∷ 176 ∷ 187 ∷ 197 ∷ 207 ∷ 217 ∷ 227 ∷ 238 ∷ 248 ∷ 258 ∷ 269 ∷ 279 ∷ 290 ∷ 300 ∷ 311 ∷ 321
    ∷ 332 ∷ 342 ∷ 353 ∷ 363 ∷ 374 ∷ 385 ∷ 396 ∷ 406 ∷ 417 ∷ 428 ∷ 439 ∷ 450 ∷ 461 ∷ 472 ∷ 484 ∷ 495
    ∷ 506 ∷ 518 ∷ 529 ∷ 540 ∷ 552 ∷ 564 ∷ 575 ∷ 587 ∷ 599 ∷ 611 ∷ 623 ∷ 635 ∷ 647 ∷ 660 ∷ 672 ∷ 684
    ∷ 697 ∷ 710 ∷ 722 ∷ 735 ∷ 748 ∷ 762 ∷ 775 ∷ 788 ∷ 802 ∷ 816 ∷ 829 ∷ 843 ∷ 858 ∷ 872 ∷ 886 ∷ 901
    ∷ 916 ∷ 931 ∷ 946 ∷ 962 ∷ 977 ∷ 993 ∷ 1009 ∷ 1026 ∷ 1043 ∷ 1060 ∷ 1077 ∷ 1094 ∷ 1112 ∷ 1131 ∷ 1149 ∷ 1168
    ∷ 1188 ∷ 1208 ∷ 1228 ∷ 1249 ∷ 1270 ∷ 1292 ∷ 1315 ∷ 1338 ∷ 1362 ∷ 1386 ∷ 1412 ∷ 1438 ∷ 1466 ∷ 1494 ∷ 1524 ∷ 1555
    ∷ 1587 ∷ 1622 ∷ 1658 ∷ 1696 ∷ 1737 ∷ 1781 ∷ 1828 ∷ 1880 ∷ 1937 ∷ 2000 ∷ 2073 ∷ 2157 ∷ 2260 ∷ 2391 ∷ 2345 ∷ 3190 ∷ []

-- the size of a byte's entry, by the byte's low seven bits
abbrev pub size : ℕ → ℕ
size byte = get_or sizes (byte % 128) 0

-- the entry of a byte: its size, and less than 0 if the highest bit of the byte is 1
unfoldable pub entry : ℕ → ℤ
entry byte = if nat_lt byte 128 then pos (size byte) else neg_ℤ (pos (size byte))

-- the sum of numbers, one for each byte of a list
abbrev pub total : (ℕ → ℤ) → List ℕ → ℤ
total f [] = pos 0
total f (byte ∷ bytes) = f byte +ℤ total f bytes

-- all bytes
abbrev pub all_bytes : List ℕ
all_bytes = range_with_len 0 256

-- the sum of the entries' squares, of all bytes; a sum of eight entries has 8/256 of it as its variance
abbrev pub sum_of_squares : ℕ
sum_of_squares = 267663720

-- the sum of a power of the entries' sizes, of all bytes
unfoldable pub power_sum : ℕ → ℕ
power_sum power = sum_by (λ byte. size byte ^ power) all_bytes

-- whether a number is this many times a unit, to 0.001 of the unit
unfoldable pub is_about : ℕ → ℕ → ℕ → Bool
is_about times unit number = nat_le ((1000 * times - 1) * unit) (1000 * number) && nat_le (1000 * number) ((1000 * times + 1) * unit)
