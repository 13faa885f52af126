-- The numbers of a physical layer frame (EN 302 307-1, 5.5), and those of this profile's header test.
use Rattle.std.specs.Prelude.{ℕ}

-- own: the largest number of wrong bits with which a header passes
abbrev pub header_threshold : ℕ
header_threshold = 12

-- own: the largest number of wrong bits that may be allowed right after a frame
abbrev pub max_lock : ℕ
max_lock = 40

-- the symbols of 16 slots; a pilot block follows them
abbrev pub pilot_spacing : ℕ
pilot_spacing = 1440

-- the symbols of a pilot block
abbrev pub pilot_block : ℕ
pilot_block = 36

-- the symbols of 16 slots and their pilot block
abbrev pub pilot_period : ℕ
pilot_period = 1476

-- the symbols of a slot
abbrev pub slot : ℕ
slot = 90

-- the slots of a dummy frame
abbrev pub dummy_slots : ℕ
dummy_slots = 36
