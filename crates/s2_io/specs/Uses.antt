-- Which uses of files clash (own).
use Rattle.std.specs.Prelude.{Bool, false, ◌&&◌, ◌||◌, List, Option, None, Some, ◌==◌}
use Rattle.std.specs.List.{list_any}
use Rattle.s2_io.specs.declared.uses.Node.{Node}
use Rattle.s2_io.specs.declared.uses.Role.{Role}
use Rattle.s2_io.specs.declared.uses.Role.TheVariants as roles
use Rattle.s2_io.specs.declared.uses.Use.{Use}

-- both are there, and the same: the same device, and the same inode number on it
abbrev pub same_node : Option Node → Option Node → Bool
same_node (Some a) (Some b) = (a.device == b.device) && (a.number == b.number)
same_node (Some a) None = false
same_node None b = false

-- two uses clash if they are of one standard stream, or of one file that one of them writes
abbrev pub clash_of : Role → Role → Bool → Bool → Bool
clash_of roles.Input roles.Input standard node = standard
clash_of roles.Output roles.Output standard node = standard || node
clash_of roles.Input roles.Output standard node = node
clash_of roles.Output roles.Input standard node = node

-- two uses of one standard stream, or of one file that one of them writes; files are compared by device and inode
-- number
abbrev pub clashes : Use → Use → Bool
clashes a b = clash_of a.role b.role (a.standard && b.standard) (same_node a.node b.node)

-- a use that clashes with one of these
abbrev pub clashes_any : List Use → Use → Bool
clashes_any before new = list_any (λ u. clashes u new) before
