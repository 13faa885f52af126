-- What both ends of a link share, and which setups are refused (EN 302 307-1, 5.1.6 and 5.5.4).
use Rattle.std.specs.Prelude.{◌≡◌, ◌≢◌, ◌<◌, ◌≤◌}
use Rattle.s2_mode.specs.Mode.{shape_in}
use Rattle.s2_rows.specs.Rows.{Rows}
use Rattle.s2_scramble.specs.Gold.{max_number}
use Rattle.s2_link.specs.declared.setup.Setup.{Setup}
use Rattle.s2_link.specs.declared.setup.LinkSetup.{LinkSetup}
use Rattle.s2_link.specs.declared.fault.SetupFault.{SetupFault}
use Rattle.s2_link.specs.declared.fault.SetupFault.TheVariants as faults
use Rattle.s2_link.specs.Limits.{max_roll_off}

-- a setup, and the address rows
pub record Link : Type 0 where
  pub setup : Setup
  pub rows : Rows

-- the link of a setup and rows
abbrev pub link_of : Setup → Rows → Link
link_of setup rows = record { setup = setup; rows = rows }

-- a setup whose numbers are in their ranges, as any other
abbrev pub setup_of : LinkSetup → Setup
setup_of setup = record { mode = setup.mode; number = setup.number; roll_off = setup.roll_off }

-- the rows are of the mode's shape
abbrev pub HasShape : Setup → Rows → Type 0
HasShape setup rows = rows.shape ≡ shape_in setup.mode

-- the rows are of the mode's shape, and the scrambling number and the roll-off are some
pub record IsSetUp (setup : Setup) (rows : Rows) : Type 0 where
  pub shape : HasShape setup rows
  pub number : setup.number ≤ max_number
  pub roll_off : setup.roll_off ≤ max_roll_off

-- when a setup and rows are refused, at both ends of a link: the first of three
abbrev pub RefusesLink : Setup → Rows → SetupFault → Type 0
RefusesLink setup rows faults.OtherShape = rows.shape ≢ shape_in setup.mode
RefusesLink setup rows faults.BadNumber = HasShape setup rows × (max_number < setup.number)
RefusesLink setup rows faults.BadRollOff = HasShape setup rows × (setup.number ≤ max_number) × (max_roll_off < setup.roll_off)
RefusesLink setup rows fault = ⊥
