-- The texts of refusals of certificate files (own).
use Rattle.std.specs.Prelude.{ℕ, List, codes}
use Rattle.s2_certfile.specs.declared.fault.CertFault.{CertFault}
use Rattle.s2_certfile.specs.declared.fault.CertFault.TheVariants as cert_faults

-- the text of each refusal of a certificate file
abbrev pub certificate_fault_text : CertFault → List ℕ
certificate_fault_text cert_faults.Magic = codes "magic"
certificate_fault_text cert_faults.Cut = codes "cut"
certificate_fault_text cert_faults.Extra = codes "extra"
certificate_fault_text cert_faults.Range = codes "range"
certificate_fault_text cert_faults.Shape = codes "shape"
certificate_fault_text cert_faults.NoMemory = codes "no memory"
