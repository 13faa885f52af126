-- The entries as the code has them, and what holds of each.
use Rattle.std.proofs.Common.{◌≡◌, ℕ, ◌<◌, ◌≤ℤ◌, Bool, true, List, [], ◌∷◌, get_or, map, ℤ, pos, negsuc, to_z, of_z, refl, sym, ap, ◌∙◌, arith}
use Rattle.std.proofs.lemmas.List.FromFn.{get_or-map-range_with_len}
use Rattle.std.proofs.lemmas.Bool.{and_parts}
use Rattle.std.proofs.lemmas.Float.{T_from_true}
use Rattle.std.specs.Int.Signed.{le_z}
use Rattle.std.specs.Prelude.{◌&&◌}
use Rattle.std.specs.Int.{w32}
use Rattle.std.specs.List.{range_with_len}
use Rattle.s2_channel.specs.Table.{entry, power_sum, is_about}
use Rattle.s2_channel.specs.Laws.{TableLaw}

-- the entry of each byte
abbrev pub entries : List ℤ
entries =
    pos 5 ∷ pos 15 ∷ pos 25 ∷ pos 35 ∷ pos 45 ∷ pos 55 ∷ pos 65 ∷ pos 75 ∷ pos 85 ∷ pos 95 ∷ pos 105 ∷ pos 116 ∷ pos 126 ∷ pos 136 ∷ pos 146 ∷ pos 156
    ∷ pos 166 ∷ pos 176 ∷ pos 187 ∷ pos 197 ∷ pos 207 ∷ pos 217 ∷ pos 227 ∷ pos 238 ∷ pos 248 ∷ pos 258 ∷ pos 269 ∷ pos 279 ∷ pos 290 ∷ pos 300 ∷ pos 311 ∷ pos 321
    ∷ pos 332 ∷ pos 342 ∷ pos 353 ∷ pos 363 ∷ pos 374 ∷ pos 385 ∷ pos 396 ∷ pos 406 ∷ pos 417 ∷ pos 428 ∷ pos 439 ∷ pos 450 ∷ pos 461 ∷ pos 472 ∷ pos 484 ∷ pos 495
    ∷ pos 506 ∷ pos 518 ∷ pos 529 ∷ pos 540 ∷ pos 552 ∷ pos 564 ∷ pos 575 ∷ pos 587 ∷ pos 599 ∷ pos 611 ∷ pos 623 ∷ pos 635 ∷ pos 647 ∷ pos 660 ∷ pos 672 ∷ pos 684
    ∷ pos 697 ∷ pos 710 ∷ pos 722 ∷ pos 735 ∷ pos 748 ∷ pos 762 ∷ pos 775 ∷ pos 788 ∷ pos 802 ∷ pos 816 ∷ pos 829 ∷ pos 843 ∷ pos 858 ∷ pos 872 ∷ pos 886 ∷ pos 901
    ∷ pos 916 ∷ pos 931 ∷ pos 946 ∷ pos 962 ∷ pos 977 ∷ pos 993 ∷ pos 1009 ∷ pos 1026 ∷ pos 1043 ∷ pos 1060 ∷ pos 1077 ∷ pos 1094 ∷ pos 1112 ∷ pos 1131 ∷ pos 1149 ∷ pos 1168
    ∷ pos 1188 ∷ pos 1208 ∷ pos 1228 ∷ pos 1249 ∷ pos 1270 ∷ pos 1292 ∷ pos 1315 ∷ pos 1338 ∷ pos 1362 ∷ pos 1386 ∷ pos 1412 ∷ pos 1438 ∷ pos 1466 ∷ pos 1494 ∷ pos 1524 ∷ pos 1555
    ∷ pos 1587 ∷ pos 1622 ∷ pos 1658 ∷ pos 1696 ∷ pos 1737 ∷ pos 1781 ∷ pos 1828 ∷ pos 1880 ∷ pos 1937 ∷ pos 2000 ∷ pos 2073 ∷ pos 2157 ∷ pos 2260 ∷ pos 2391 ∷ pos 2345 ∷ pos 3190
    ∷ negsuc 4 ∷ negsuc 14 ∷ negsuc 24 ∷ negsuc 34 ∷ negsuc 44 ∷ negsuc 54 ∷ negsuc 64 ∷ negsuc 74 ∷ negsuc 84 ∷ negsuc 94 ∷ negsuc 104 ∷ negsuc 115 ∷ negsuc 125 ∷ negsuc 135 ∷ negsuc 145 ∷ negsuc 155
    ∷ negsuc 165 ∷ negsuc 175 ∷ negsuc 186 ∷ negsuc 196 ∷ negsuc 206 ∷ negsuc 216 ∷ negsuc 226 ∷ negsuc 237 ∷ negsuc 247 ∷ negsuc 257 ∷ negsuc 268 ∷ negsuc 278 ∷ negsuc 289 ∷ negsuc 299 ∷ negsuc 310 ∷ negsuc 320
    ∷ negsuc 331 ∷ negsuc 341 ∷ negsuc 352 ∷ negsuc 362 ∷ negsuc 373 ∷ negsuc 384 ∷ negsuc 395 ∷ negsuc 405 ∷ negsuc 416 ∷ negsuc 427 ∷ negsuc 438 ∷ negsuc 449 ∷ negsuc 460 ∷ negsuc 471 ∷ negsuc 483 ∷ negsuc 494
    ∷ negsuc 505 ∷ negsuc 517 ∷ negsuc 528 ∷ negsuc 539 ∷ negsuc 551 ∷ negsuc 563 ∷ negsuc 574 ∷ negsuc 586 ∷ negsuc 598 ∷ negsuc 610 ∷ negsuc 622 ∷ negsuc 634 ∷ negsuc 646 ∷ negsuc 659 ∷ negsuc 671 ∷ negsuc 683
    ∷ negsuc 696 ∷ negsuc 709 ∷ negsuc 721 ∷ negsuc 734 ∷ negsuc 747 ∷ negsuc 761 ∷ negsuc 774 ∷ negsuc 787 ∷ negsuc 801 ∷ negsuc 815 ∷ negsuc 828 ∷ negsuc 842 ∷ negsuc 857 ∷ negsuc 871 ∷ negsuc 885 ∷ negsuc 900
    ∷ negsuc 915 ∷ negsuc 930 ∷ negsuc 945 ∷ negsuc 961 ∷ negsuc 976 ∷ negsuc 992 ∷ negsuc 1008 ∷ negsuc 1025 ∷ negsuc 1042 ∷ negsuc 1059 ∷ negsuc 1076 ∷ negsuc 1093 ∷ negsuc 1111 ∷ negsuc 1130 ∷ negsuc 1148 ∷ negsuc 1167
    ∷ negsuc 1187 ∷ negsuc 1207 ∷ negsuc 1227 ∷ negsuc 1248 ∷ negsuc 1269 ∷ negsuc 1291 ∷ negsuc 1314 ∷ negsuc 1337 ∷ negsuc 1361 ∷ negsuc 1385 ∷ negsuc 1411 ∷ negsuc 1437 ∷ negsuc 1465 ∷ negsuc 1493 ∷ negsuc 1523 ∷ negsuc 1554
    ∷ negsuc 1586 ∷ negsuc 1621 ∷ negsuc 1657 ∷ negsuc 1695 ∷ negsuc 1736 ∷ negsuc 1780 ∷ negsuc 1827 ∷ negsuc 1879 ∷ negsuc 1936 ∷ negsuc 1999 ∷ negsuc 2072 ∷ negsuc 2156 ∷ negsuc 2259 ∷ negsuc 2390 ∷ negsuc 2344 ∷ negsuc 3189 ∷ []

-- the entry of a byte, as it is read
abbrev pub read : ℕ → ℤ
read byte = to_z w32 (of_z w32 (get_or entries byte (pos 0)))

-- all bytes at once
all_read : map read (range_with_len 0 256) ≡ map entry (range_with_len 0 256)
unfolding entry
all_read = refl

pub read-entry : (byte : ℕ) → byte < 256 → read byte ≡ entry byte
read-entry byte fits =
    sym (get_or-map-range_with_len read 0 256 byte byte (pos 0) fits (omega arith))
    ∙ ap (λ all. get_or all byte (pos 0)) all_read
    ∙ get_or-map-range_with_len entry 0 256 byte byte (pos 0) fits (omega arith)

is_small : ℕ → Bool
is_small byte = le_z (negsuc 3189) (read byte) && le_z (read byte) (pos 3190)

all_small : map is_small (range_with_len 0 256) ≡ map (λ byte. true) (range_with_len 0 256)
unfolding is_small
all_small = refl

pub small : (byte : ℕ) → byte < 256 → (negsuc 3189 ≤ℤ read byte) × (read byte ≤ℤ pos 3190)
unfolding is_small
small byte fits =
    let passes : is_small byte ≡ true =
    sym (get_or-map-range_with_len is_small 0 256 byte byte true fits (omega arith))
    ∙ ap (λ all. get_or all byte true) all_small
    ∙ get_or-map-range_with_len (λ byte. true) 0 256 byte byte true fits (omega arith) in
    let (least, most) = and_parts _ _ passes in
    (record { le = T_from_true _ least }, record { le = T_from_true _ most })

pub table : TableLaw
unfolding entry power_sum is_about
table = record { mean = refl; squares = refl; fourth = refl; sixth = refl }
