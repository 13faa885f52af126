-- Lines that are being built (own).
use Rattle.std.specs.Prelude.{◌≡◌, ℕ}
use Rattle.s2_io.specs.declared.line.TheConstants.{LINE_ROOM}

-- the maximum length of a line in bytes
abbrev pub line_room : ℕ
line_room = 640

-- the room that the code has is this
abbrev pub LimitsLaw : Type 0
LimitsLaw = LINE_ROOM ≡ line_room
