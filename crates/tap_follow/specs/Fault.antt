-- Faults.
use Rattle.std.specs.Prelude.{Bool, true, false}
use Rattle.text_lines.specs.declared.line_fault.LineFault.{LineFault}
use Rattle.text_lines.specs.declared.line_fault.LineFault.TheVariants as lines
use Rattle.tap_follow.specs.declared.fault.FollowFault.{FollowFault}
use Rattle.tap_follow.specs.declared.fault.FollowFault.TheVariants.{Write, Field, Memory, ThirdTap}

-- whether this fault says that the writer failed
abbrev pub is_write : FollowFault → Bool
is_write Write = true
is_write Field = false
is_write Memory = false
is_write (ThirdTap name) = false

-- whether this fault leaves a course as it was: a line that isn't what is asked for, or a third tap
abbrev pub keeps : FollowFault → Bool
keeps Write = false
keeps Field = true
keeps Memory = false
keeps (ThirdTap name) = true

-- a fault of a line
abbrev pub fault_of : LineFault → FollowFault
fault_of lines.Write = Write
fault_of lines.Field = Field
fault_of lines.Memory = Memory
