-- The faults of a stream among those of a receiver (own).
use Rattle.s2_receive.specs.declared.report.Fault.{Fault}
use Rattle.s2_receive.specs.declared.report.Fault.TheVariants as faults
use Rattle.s2_mode.specs.declared.stream_fault.StreamFault.{StreamFault}
use Rattle.s2_mode.specs.declared.stream_fault.StreamFault.TheVariants as stream_faults

-- a fault of a stream, as a fault of a receiver
abbrev pub fault_of : StreamFault → Fault
fault_of stream_faults.Read = faults.Read
fault_of stream_faults.Write = faults.Write
