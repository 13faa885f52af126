-- What the faults of the transmitter say (own).
use Rattle.std.specs.Prelude.{ℕ, List, ◌++◌, codes, decimal}
use Rattle.s2_send.specs.declared.outcome.SendFault.{SendFault}
use Rattle.s2_send.specs.declared.outcome.SendFault.TheVariants.{NotWholePacket, NoSync, Read, Write}

-- what each fault of the transmitter says
abbrev pub send_fault_text : SendFault → List ℕ
send_fault_text NotWholePacket = codes "not a whole packet"
send_fault_text (NoSync packet size) = codes "no sync in packet " ++ decimal packet
send_fault_text Read = codes "cannot read"
send_fault_text Write = codes "cannot write"
