-- The search for a word's errors, over the field of a workspace (EN 302 307-1, 5.3.1).
use Rattle.std.specs.Prelude.{ℕ, ◌≡◌, ◌+◌, ◌<◌, ◌≤◌, Bool, List, length}
use Rattle.s2_bits.specs.Bits.{differences}
use Rattle.s2_field.specs.Gf16 as gf16
use Rattle.s2_field.specs.Gf14 as gf14
use Rattle.s2_bch.specs.Values.{HasRoots, HaveSameValues}
use Rattle.s2_bch.specs.Words.{IsMultiple}
use Rattle.s2_bch.specs.declared.bch.Workspace.{Workspace}
use Rattle.s2_bch.specs.declared.bch.Workspace.TheVariants.{Normal, Short}

-- the number of errors that are found
abbrev pub reach_of : Workspace → ℕ
reach_of (Normal t) = t
reach_of (Short t) = t

-- words are shorter than this: the number of the powers of alpha
abbrev pub order_of : Workspace → ℕ
order_of (Normal t) = 65535
order_of (Short t) = 16383

-- the first powers of alpha, two for each error, are roots of g
abbrev pub HasRootsIn : Workspace → List Bool → Type 0
HasRootsIn (Normal t) g = HasRoots gf16.field gf16.alpha (t + t) g
HasRootsIn (Short t) g = HasRoots gf14.field gf14.alpha (t + t) g

-- v and w have the same values at these powers
abbrev pub HaveSameValuesIn : Workspace → (v w : List Bool) → Type 0
HaveSameValuesIn (Normal t) v w = HaveSameValues gf16.field gf16.alpha (t + t) v w
HaveSameValuesIn (Short t) v w = HaveSameValues gf14.field gf14.alpha (t + t) v w

-- a word in reach of the old one that is a multiple of a polynomial with these roots is the new one
abbrev pub IsOnlyIn : Workspace → (old new : List Bool) → Type 0
IsOnlyIn workspace old new =
    (g v : List Bool) → 0 < length g → HasRootsIn workspace g → IsMultiple g v → length v ≡ length old → differences (length old) old v ≤ reach_of workspace → new ≡ v
