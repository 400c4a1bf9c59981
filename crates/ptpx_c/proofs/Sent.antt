-- What a handle owns may go to another thread: neither the pointer nor the port that lies there names a thread.
use Rattle.std.specs.Prelude.{Option, Some, None}
use base.Fraction.{full_share}
use base.Shift.{Keyless}
use denote.Builtin.{RawPtr}
use denote.Exit.{Exit, unchanged, leaves, hidden, under}
use denote.Param.Send.{IsSend, Quiet, part_keyless, sendable}
use denote.RattleType.{RattleType}
use denote.RawPtr.{Ptr, block_ptr, null_ptr}
use Rattle.ptpx_c.specs.Memory.{memory_of}

pub pointer_send : IsSend RawPtr
pointer_send = search sendable

pub memory_keyless : (R : RattleType) → IsSend R → (at : Ptr) (port : Option R.Denot) → Keyless (memory_of R at port)
memory_keyless R send (block_ptr b o) None = tt
memory_keyless R send null_ptr None = tt
memory_keyless R send (block_ptr b o) (Some slave) = part_keyless R send full_share slave b o
memory_keyless R send null_ptr (Some slave) = tt

-- what the fields leave behind, seen as what the handle does
pub left_quiet : {Handle Fields : Type 0} (fields_of : Handle → Fields) (exit : Exit Fields) → Quiet exit → Quiet (hidden (under fields_of exit))
left_quiet fields_of unchanged calm = λ handle last. tt
left_quiet fields_of (leaves L l S s r) calm = λ handle. calm (fields_of handle)
