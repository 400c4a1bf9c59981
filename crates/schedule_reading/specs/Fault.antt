-- The faults by which refusals are told, and their numbers.
use Rattle.std.specs.Prelude.{ℕ, Bool, true, false, Option, Some, None}
use Rattle.network_model.specs.declared.refusal.WorldRefusal.{WorldRefusal}
use Rattle.network_model.specs.declared.refusal.WorldRefusal.TheVariants as refusals
use Rattle.network_model.specs.Refusal.{code_of}
use Rattle.schedule_reading.specs.declared.fault.TaskFault.{TaskFault}
use Rattle.schedule_reading.specs.declared.fault.TaskFault.TheVariants.{Write, Json, Field, World, Memory}

-- the fault by which the refusal of a network or of an event is told
abbrev pub fault_of : WorldRefusal → TaskFault
fault_of refusals.Memory = Memory
fault_of why = World why

-- whether this fault says that the writer failed
abbrev pub is_write : TaskFault → Bool
is_write Write = true
is_write fault = false

-- the number of a fault
abbrev pub number_of : TaskFault → ℕ
number_of Write = 802
number_of Json = 805
number_of Field = 806
number_of (World why) = 807
number_of Memory = 808

-- the number of the refusal that a fault is about
abbrev pub refusal_of : TaskFault → Option ℕ
refusal_of (World why) = Some (code_of why)
refusal_of fault = None
