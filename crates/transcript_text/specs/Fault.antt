-- The numbers of the faults, and which device failed.
use Rattle.std.specs.Prelude.{◌≡◌, ℕ, MatchResult, Option, Some, None, Result}
use Rattle.text_lines.specs.declared.counted.Counted.{Counted}
use Rattle.transcript_text.specs.declared.fault.Fault.{Fault}
use Rattle.transcript_text.specs.declared.fault.FaultKind.{FaultKind}
use Rattle.network_model.specs.Refusal.{code_of as world_code}
use Rattle.schedule_reading.specs.declared.fault.TaskFault.{TaskFault}
use Rattle.schedule_reading.specs.declared.fault.TaskFault.TheVariants as task_faults
use Rattle.transcript_text.specs.declared.fault.FaultKind.TheVariants.{Read, Write, LineTooLong, TooManyLines, Json}
use Rattle.transcript_text.specs.declared.fault.FaultKind.TheVariants.{Field, World, Memory}
use Rattle.text_lines.specs.declared.line_fault.LineFault.{LineFault}
use Rattle.text_lines.specs.declared.line_fault.LineFault.TheVariants as line_faults
use Rattle.text_lines.specs.declared.fault.Cause.{Cause}
use Rattle.text_lines.specs.declared.fault.Cause.TheVariants.{Reading, Task}
use Rattle.text_lines.specs.declared.fault.ReadingFault.{ReadingFault}
use Rattle.text_lines.specs.declared.fault.ReadingFault.TheVariants as reading
use Rattle.text_lines.specs.declared.fault.Stopped.{Stopped}
use Rattle.text_lines.specs.Counted.{HasFailed, HasNotFailed}
use Rattle.text_lines.specs.Fault.{number_by, refusal_by, no_refusal, line_number}
use Rattle.schedule_reading.specs.Fault.{number_of, refusal_of as task_refusal}

-- the number of a fault
abbrev pub code_of : FaultKind → ℕ
code_of Read = 801
code_of Write = 802
code_of LineTooLong = 803
code_of TooManyLines = 804
code_of Json = 805
code_of Field = 806
code_of (World why) = 807
code_of Memory = 808

-- the number of the refusal that a fault is about
abbrev pub refusal_of : FaultKind → Option ℕ
refusal_of (World why) = Some (world_code why)
refusal_of kind = None

-- the fault by which a fault in reading is told
abbrev pub of_reading : ReadingFault → FaultKind
of_reading reading.Read = Read
of_reading reading.LineTooLong = LineTooLong
of_reading reading.TooManyLines = TooManyLines

-- the fault by which a fault of a task is told
abbrev pub of_task : TaskFault → FaultKind
of_task task_faults.Write = Write
of_task task_faults.Json = Json
of_task task_faults.Field = Field
of_task (task_faults.World why) = World why
of_task task_faults.Memory = Memory

-- the fault by which a fault of a line is told
abbrev pub of_line : LineFault → FaultKind
of_line line_faults.Write = Write
of_line line_faults.Field = Field
of_line line_faults.Memory = Memory

-- the fault by which it is told why lines were answered no further, by how those of the task are told
abbrev pub kind_by : {F : Type 0} → (F → FaultKind) → Cause F → FaultKind
kind_by of (Reading fault) = of_reading fault
kind_by of (Task fault) = of fault

-- a kind of fault has the number, and its refusal's, of what stopped the answering of lines
pub record FaultsHaveOneNumber : Type 0 where
  pub tasks : (what : Cause TaskFault) → code_of (kind_by of_task what) ≡ number_by number_of what
  pub tasks_refusal : (what : Cause TaskFault) → refusal_of (kind_by of_task what) ≡ refusal_by task_refusal what
  pub lines : (what : Cause LineFault) → code_of (kind_by of_line what) ≡ number_by line_number what
  pub lines_refusal : (what : Cause LineFault) → refusal_of (kind_by of_line what) ≡ refusal_by no_refusal what

-- the kind of a fault
abbrev pub kind_at : Fault → FaultKind
kind_at fault = fault.what

-- the kind of what stopped lines whose faults are those of a task
abbrev pub task_kind : Stopped (Cause TaskFault) → FaultKind
task_kind stop = kind_by of_task stop.what

-- the kind of what stopped lines whose faults are those of a line
abbrev pub line_kind : Stopped (Cause LineFault) → FaultKind
line_kind stop = kind_by of_line stop.what

-- which of the two devices failed where this is answered
abbrev pub FailedAs : {R W : Type 0} → FaultKind → (input input' : Counted R) (output output' : Counted W) → Type 0
FailedAs Read input input' output output' = HasFailed input input' × HasNotFailed output output'
FailedAs Write input input' output output' = HasNotFailed input input' × HasFailed output output'
FailedAs kind input input' output output' = HasNotFailed input input' × HasNotFailed output output'

-- which of the two devices failed at this answer
abbrev pub FailedWith : {A R W : Type 0} → Result A Fault → (input input' : Counted R) (output output' : Counted W)
    → Type 0
FailedWith answer input input' output output' = MatchResult answer
    (λ _. HasNotFailed input input' × HasNotFailed output output')
    (λ fault. FailedAs fault.what input input' output output')
