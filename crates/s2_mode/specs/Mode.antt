-- The modes of the profile, by the table of modes (EN 302 307-1, table 12 and clause 5.5).
use Rattle.std.specs.Prelude.{◌≡◌, ◌≢◌, ℕ, ◌+◌, ◌-◌, ◌*◌, ◌/◌, ◌≤◌, ◌<◌, ℤ, pos, Bool, true, false, get_or, if◌then◌else◌}
use Rattle.s2_mode.specs.Limits.{max_bits, header_symbols}
use Rattle.s2_mode.specs.Shape.{Shape, shape_of}
use Rattle.s2_mode.specs.Table.{CodeRate, rate, rates, line, modcods}
use Rattle.s2_mode.specs.declared.modcods.Modcod.{Modcod}
use Rattle.s2_mode.specs.declared.modcods.Modulation.{Modulation}
use Rattle.s2_mode.specs.declared.modcods.Modulation.TheVariants as modulations

-- a MODCOD, whether frames are short, and whether they have pilots
pub record Mode : Type 0 where
  pub modcod : ℕ
  pub short : Bool
  pub pilots : Bool

-- the line of its MODCOD
abbrev pub modcod_of : Mode → Modcod
modcod_of m = get_or modcods (m.modcod - 1) (line modulations.Qpsk 0 (pos 0))

-- its constellation
unfoldable pub modulation_of : Mode → Modulation
modulation_of m = (modcod_of m).modulation

-- whether that is QPSK, and not 8PSK
abbrev pub names_qpsk : Modulation → Bool
names_qpsk modulations.Qpsk = true
names_qpsk modulations.Psk8 = false

-- whether a mode's constellation is QPSK
unfoldable pub is_qpsk : Mode → Bool
is_qpsk m = names_qpsk (modulation_of m)

-- the Es/N0 of its MODCOD, in hundredths of a dB; it is that of normal frames
unfoldable pub ideal_of : Mode → ℤ
ideal_of m = (modcod_of m).ideal

-- the place of its code rate
unfoldable pub rate_index : Mode → ℕ
rate_index m = (modcod_of m).rate_index

-- its code rate
unfoldable pub rate_of : Mode → CodeRate
rate_of m = get_or rates (rate_index m) (rate 0 1 0 0 0 0 0)

-- MODCOD 1 to 17; 9/10, which is 11 and 17, has no short frames
pub record IsMode (m : Mode) : Type 0 where
  pub some : 1 ≤ m.modcod
  pub most : m.modcod ≤ 17
  pub held : m.short ≡ true → (m.modcod ≢ 11) × (m.modcod ≢ 17)

-- Kbch, the bits of a message
unfoldable pub kbch_of : Mode → ℕ
kbch_of m = if m.short then (rate_of m).sizes.short_kbch else (rate_of m).sizes.kbch

-- k, which is Nbch too
unfoldable pub k_of : Mode → ℕ
k_of m = if m.short then (rate_of m).sizes.short_k else (rate_of m).sizes.k

-- n
unfoldable pub n_of : Mode → ℕ
n_of m = if m.short then 16200 else 64800

-- how many errors of a BCH word can be corrected
unfoldable pub t_of : Mode → ℕ
t_of m = if m.short then 12 else (rate_of m).sizes.t

-- by how many checks each next bit of a group moves on
unfoldable pub q_of : Mode → ℕ
q_of m = (n_of m - k_of m) / 360

-- a code rate is k / n of normal frames
abbrev pub CodeRatesLaw : Type 0
CodeRatesLaw = (m : Mode) → IsMode m → m.short ≡ false → k_of m * (rate_of m).under ≡ n_of m * (rate_of m).over

-- how many bits a symbol carries
unfoldable pub width_of : Mode → ℕ
width_of m = if is_qpsk m then 2 else 3

-- slots of 90 symbols
unfoldable pub slots_of : Mode → ℕ
slots_of m = n_of m / width_of m / 90

-- a pilot block after each 16 slots, but not at the frame's end
unfoldable pub pilot_blocks_of : Mode → ℕ
pilot_blocks_of m = if m.pilots then (slots_of m - 1) / 16 else 0

-- the header, the slots of 90 symbols, and the pilot blocks of 36
unfoldable pub symbols_in : Mode → ℕ
symbols_in m = header_symbols + 90 * slots_of m + 36 * pilot_blocks_of m

-- groups of 360 bits
abbrev pub shape_in : Mode → Shape
shape_in m = shape_of 360 (k_of m / 360) (q_of m)

-- the mode of a MODCOD, short or normal frames, with or without pilots
abbrev pub mode_of : ℕ → Bool → Bool → Mode
mode_of modcod short pilots = record { modcod = modcod; short = short; pilots = pilots }

-- The relations between the sizes of a mode's two codes. Each minimal polynomial of the BCH code has degree 16, in
-- short frames 14. The LDPC code has groups of 360. A data field, after the header of 80 bits, has whole bytes
pub record HasCodeSizes (m : Mode) : Type 0 where
  pub normal_code : m.short ≡ false → k_of m ≡ kbch_of m + 16 * t_of m
  pub short_code : m.short ≡ true → k_of m ≡ kbch_of m + 14 * t_of m
  pub groups : k_of m ≡ 360 * (k_of m / 360)
  pub checks : n_of m ≡ k_of m + 360 * q_of m
  pub groups_some : 1 ≤ k_of m / 360
  pub q_some : 1 ≤ q_of m
  pub t_least : 8 ≤ t_of m
  pub t_most : t_of m ≤ 12
  pub n_most : n_of m ≤ max_bits
  pub field : kbch_of m ≡ 80 + 8 * ((kbch_of m - 80) / 8)
  pub field_least : 374 ≤ (kbch_of m - 80) / 8
  pub field_most : (kbch_of m - 80) / 8 ≤ 7264

-- how the sizes of a mode's frame go together: n bits fill 90 symbols of each slot; the frame is the header, the slots
-- and the pilot blocks
pub record HasFrameSizes (m : Mode) : Type 0 where
  pub payload : n_of m ≡ width_of m * (90 * slots_of m)
  pub slots_least : 60 ≤ slots_of m
  pub slots_most : slots_of m ≤ 360
  pub blocks : m.pilots ≡ true → (16 * pilot_blocks_of m < slots_of m) × (slots_of m ≤ 16 * pilot_blocks_of m + 16)
  pub no_blocks : m.pilots ≡ false → pilot_blocks_of m ≡ 0
  pub symbols : symbols_in m ≡ 90 + 90 * slots_of m + 36 * pilot_blocks_of m
  pub symbols_most : symbols_in m ≤ 33282
