-- The numbers of the faults of a capture.
use Rattle.std.specs.Prelude.{ℕ}
use Rattle.capture_file.specs.declared.fault.CaptureFault.{CaptureFault}
use Rattle.capture_file.specs.declared.fault.CaptureFault.TheVariants.{NoCapture, Version, ByteOrderMagic, Length}
use Rattle.capture_file.specs.declared.fault.CaptureFault.TheVariants.{Interface, CutOff}

-- the number of a fault
abbrev pub fault_number : CaptureFault → ℕ
fault_number NoCapture = 1001
fault_number Version = 1002
fault_number ByteOrderMagic = 1003
fault_number Length = 1004
fault_number Interface = 1005
fault_number CutOff = 1006
