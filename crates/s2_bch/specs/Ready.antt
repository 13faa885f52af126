-- What an encoder and decoder of a mode holds (EN 302 307-1, 5.3.1).
use Rattle.std.specs.Prelude.{ℕ, ◌≡◌, ◌+◌, true, false, List, drop}
use Rattle.s2_mode.specs.Mode.{Mode, IsMode, k_of, kbch_of, t_of, HasCodeSizes}
use Rattle.s2_bch.specs.Generators.{generator_of}
use Rattle.s2_bch.specs.Registers.{IsTableFor}
use Rattle.s2_bch.specs.declared.register.Register.{Register}
use Rattle.s2_bch.specs.declared.bch.Workspace.{Workspace}
use Rattle.s2_bch.specs.declared.bch.Workspace.TheVariants.{Normal, Short}

-- the search is over the field of the mode's code, for up to t places
abbrev pub IsWorkspace : Mode → Workspace → Type 0
IsWorkspace m (Normal t) = (m.short ≡ false) × (t ≡ t_of m)
IsWorkspace m (Short t) = (m.short ≡ true) × (t ≡ t_of m)

pub record IsReady (m : Mode) (table : List Register) (rest candidate : ℕ) (workspace : Workspace) : Type 0 where
  pub valid : IsMode m
  pub sizes : HasCodeSizes m
  pub table_is : IsTableFor (drop 1 (generator_of m)) table
  pub rest_fits : rest + kbch_of m ≡ k_of m
  pub candidate_fits : candidate ≡ k_of m
  pub workspace_is : IsWorkspace m workspace
