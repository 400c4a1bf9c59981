-- The numbers of faults.
use Rattle.std.specs.Prelude.{ℕ, Bool, true, false, Option, None}
use Rattle.text_lines.specs.declared.fault.Cause.{Cause}
use Rattle.text_lines.specs.declared.fault.Cause.TheVariants.{Reading, Task}
use Rattle.text_lines.specs.declared.fault.ReadingFault.{ReadingFault}
use Rattle.text_lines.specs.declared.fault.ReadingFault.TheVariants.{Read, LineTooLong, TooManyLines}
use Rattle.text_lines.specs.declared.line_fault.LineFault.{LineFault}
use Rattle.text_lines.specs.declared.line_fault.LineFault.TheVariants.{Write, Field, Memory}

-- the number of a fault in reading
abbrev pub reading_number : ReadingFault → ℕ
reading_number Read = 801
reading_number LineTooLong = 803
reading_number TooManyLines = 804

-- the number of a fault of a line
abbrev pub line_number : LineFault → ℕ
line_number Write = 802
line_number Field = 806
line_number Memory = 808

-- whether this fault says that the writer failed
abbrev pub is_write : LineFault → Bool
is_write Write = true
is_write fault = false

-- of a fault that is about no refusal
abbrev pub no_refusal : {F : Type 0} → F → Option ℕ
no_refusal fault = None

-- the number of what stopped the answering of lines, by those of a task's faults
abbrev pub number_by : {F : Type 0} → (F → ℕ) → Cause F → ℕ
number_by number (Reading fault) = reading_number fault
number_by number (Task fault) = number fault

-- the number of the refusal that it is about, by those of a task's faults
abbrev pub refusal_by : {F : Type 0} → (F → Option ℕ) → Cause F → Option ℕ
refusal_by refusal (Reading fault) = None
refusal_by refusal (Task fault) = refusal fault
