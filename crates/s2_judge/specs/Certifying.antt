-- A certifier's value, and the invariants of its parts (own).
use Rattle.std.specs.Prelude.{◌≡◌, ◌≢◌, ℕ, Bool, Option, None, Some}
use Rattle.s2_rows.specs.Rows.{Rows}
use Rattle.s2_split.specs.Making.{Making, Shared}
use Rattle.s2_settle.specs.Plain.{settling_scale}
use Rattle.s2_settle.specs.Holding.{Settling}
use Rattle.s2_judge.specs.declared.certifier.CertificateSource.{CertificateSource}
use Rattle.s2_judge.specs.declared.certifier.CertificateSource.TheVariants.{NotFound, Maker, DualAscent}

-- the rows of its matrix, its number of passes of settling, the shares that it found last, and whether they are strict
pub record Certifying : Type 0 where
  pub rows : Rows
  pub passes : ℕ
  pub found : Option Shared
  pub strict : Bool

-- an ascent's moves
abbrev pub settled_shares : Settling → Shared
settled_shares s = record { scale = settling_scale; moves = s.moves }

-- the shares that were found, by their owner
abbrev pub found_by : Making → Settling → CertificateSource → Option Shared
found_by maker ascent NotFound = None
found_by maker ascent Maker = maker.made
found_by maker ascent DualAscent = Some (settled_shares ascent)

-- a maker that is said to hold something does
abbrev pub IsCertificateSource : Making → CertificateSource → Type 0
IsCertificateSource maker NotFound = Unit
IsCertificateSource maker Maker = maker.made ≢ None
IsCertificateSource maker DualAscent = Unit

-- the invariant of a certifier
pub record IsCertifier (r : Rows) (maker : Making) (ascent : Settling) (source : CertificateSource) : Type 0 where
  pub maker_rows : maker.rows ≡ r
  pub ascent_rows : ascent.rows ≡ r
  pub by : IsCertificateSource maker source
