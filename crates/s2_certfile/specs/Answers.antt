-- A reader's result, beside the contents of the bytes (own).
use Rattle.std.specs.Prelude.{◌≡◌, IsOk, Result, Ok, Err}
use Rattle.s2_certfile.specs.declared.fault.CertFault.{CertFault}
use Rattle.s2_certfile.specs.declared.fault.CertFault.TheVariants as faults

-- the value of the bytes, or their first refusal; memory can run out only for a file that is otherwise accepted
abbrev pub FileAnswer : {V F : Type 0} → (V → F) → Result V CertFault → Result F CertFault → Type 0
FileAnswer view (Ok v) said = said ≡ Ok (view v)
FileAnswer view (Err faults.NoMemory) said = IsOk said
FileAnswer view (Err e) said = said ≡ Err e

-- the same for a reader that allocates nothing
abbrev pub Reads : {V F : Type 0} → (V → F) → Result V CertFault → Result F CertFault → Type 0
Reads view (Ok v) said = said ≡ Ok (view v)
Reads view (Err e) said = said ≡ Err e
