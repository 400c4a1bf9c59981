use Rattle.std.proofs.Common.{◌≡◌, refl}
use Rattle.text_lines.specs.declared.fault.Cause.{Cause}
use Rattle.text_lines.specs.declared.fault.Cause.TheVariants.{Reading, Task}
use Rattle.text_lines.specs.declared.fault.ReadingFault.TheVariants as reading
use Rattle.text_lines.specs.Fault.{number_by, refusal_by, no_refusal, line_number}
use Rattle.schedule_reading.specs.declared.fault.TaskFault.{TaskFault}
use Rattle.schedule_reading.specs.declared.fault.TaskFault.TheVariants as tasks
use Rattle.schedule_reading.specs.Fault.{number_of, refusal_of as task_refusal}
use Rattle.text_lines.specs.declared.line_fault.LineFault.{LineFault}
use Rattle.text_lines.specs.declared.line_fault.LineFault.TheVariants as line_faults
use Rattle.transcript_text.specs.Fault.{code_of, refusal_of, kind_by, of_task, of_line}
use Rattle.transcript_text.proofs.laws.faults_have_one_number.Goals as goal

task_numbers : (what : Cause TaskFault) → code_of (kind_by of_task what) ≡ number_by number_of what
task_numbers (Reading reading.Read) = refl
task_numbers (Reading reading.LineTooLong) = refl
task_numbers (Reading reading.TooManyLines) = refl
task_numbers (Task tasks.Write) = refl
task_numbers (Task tasks.Json) = refl
task_numbers (Task tasks.Field) = refl
task_numbers (Task (tasks.World why)) = refl
task_numbers (Task tasks.Memory) = refl

tasks_refusal : (what : Cause TaskFault) → refusal_of (kind_by of_task what) ≡ refusal_by task_refusal what
tasks_refusal (Reading reading.Read) = refl
tasks_refusal (Reading reading.LineTooLong) = refl
tasks_refusal (Reading reading.TooManyLines) = refl
tasks_refusal (Task tasks.Write) = refl
tasks_refusal (Task tasks.Json) = refl
tasks_refusal (Task tasks.Field) = refl
tasks_refusal (Task (tasks.World why)) = refl
tasks_refusal (Task tasks.Memory) = refl

line_numbers : (what : Cause LineFault) → code_of (kind_by of_line what) ≡ number_by line_number what
line_numbers (Reading reading.Read) = refl
line_numbers (Reading reading.LineTooLong) = refl
line_numbers (Reading reading.TooManyLines) = refl
line_numbers (Task line_faults.Write) = refl
line_numbers (Task line_faults.Field) = refl
line_numbers (Task line_faults.Memory) = refl

lines_refusal : (what : Cause LineFault) → refusal_of (kind_by of_line what) ≡ refusal_by no_refusal what
lines_refusal (Reading reading.Read) = refl
lines_refusal (Reading reading.LineTooLong) = refl
lines_refusal (Reading reading.TooManyLines) = refl
lines_refusal (Task line_faults.Write) = refl
lines_refusal (Task line_faults.Field) = refl
lines_refusal (Task line_faults.Memory) = refl

pub returns : goal.returns
returns c = record { tasks = task_numbers; tasks_refusal = tasks_refusal; lines = line_numbers; lines_refusal = lines_refusal }
