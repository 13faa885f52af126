use Rattle.std.proofs.Common.{◌∙◌, ◌++◌, ap, codes, sym}
use Rattle.s2_mode.specs.FaultTexts.{said}
use Rattle.s2_io.specs.declared.fault.Fault.TheVariants as faults
use Rattle.s2_stitching.specs.Stitches.{fault_of}
use Rattle.s2_stitching.proofs.fault.fault_of.Goals as goal

pub returns-in-Recording : goal.returns-in-Recording
returns-in-Recording c =
    c.about-in-Recording.ensures ∙ ap (λ t. faults.Refused (codes "symbols, read again: " ++ said t)) c.of-in-Recording.ensures ∙ sym (ap fault_of c.in-Recording.is)
