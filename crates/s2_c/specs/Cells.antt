-- What a handle owns (own).
use Rattle.std.specs.Prelude.{Option, None, Some}
use base.Fml.{Fml, ftrue}
use denote.RattleType.{RattleType}
use denote.RawPtr.{Ptr}
use Rattle.std.specs.Box.Ownership.{box_owns}
use Rattle.std.specs.declared.alloc.Global.{Global}
use Rattle.std.specs.contracts.impls.GlobalAllocator.TheImpl.{ghosts}

-- the heap of the process
abbrev pub process_heap : Global
process_heap = record { memory = record { seal = tt } }

-- an empty cell owns nothing, a full one the box at its pointer
abbrev pub held : (R : RattleType) → Ptr → Option R.Denot → Fml
held R p None = ftrue
held R p (Some x) = box_owns (ghosts.dealloc_token process_heap) R p x
