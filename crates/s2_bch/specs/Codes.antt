-- The words of a mode's BCH code (EN 302 307-1, 5.3.1).
use Rattle.std.specs.Prelude.{◌≡◌, ◌≤◌, List, Bool, length}
use Rattle.s2_bits.specs.Bits.{differences}
use Rattle.s2_mode.specs.Mode.{Mode, k_of, t_of}
use Rattle.s2_bch.specs.Words.{IsMultiple, IsWordOf}
use Rattle.s2_bch.specs.Generators.{generator_of}

-- a word of the code: Nbch bits, and a multiple of the generator
pub record IsBchWord (m : Mode) (w : List Bool) : Type 0 where
  pub size : length w ≡ k_of m
  pub multiple : IsMultiple (generator_of m) w

-- the word of a message: the only one that begins with it
abbrev pub IsBchWordOf : Mode → List Bool → List Bool → Type 0
IsBchWordOf m message w = IsWordOf (generator_of m) message w

-- v is a word of the code that differs from r in at most t places
pub record IsWithin (m : Mode) (r v : List Bool) : Type 0 where
  pub word : IsBchWord m v
  pub near : differences (length r) r v ≤ t_of m
