-- What a handle's memory holds.
use Rattle.std.specs.Prelude.{Option, Some, None}
use Rattle.std.specs.Borrow.{Fml, RattleType, full_share}
use Rattle.std.specs.Ptr.{Ptr, lies_at, room_at}
use Rattle.ptpx_c.specs.declared.ring.RingSlave.{RingSlave}
use Rattle.ptpx_c.specs.declared.ring.WideRingSlave.{WideRingSlave}
use Rattle.ptpx_c.specs.declared.ring_watch.RingWatch.{RingWatch}
use Rattle.ptpx_c.specs.contracts.ring.RingSlave.{the_row}
use Rattle.ptpx_c.specs.contracts.ring.WideRingSlave.{the_row as wide_row}
use Rattle.ptpx_c.specs.contracts.ring_watch.RingWatch.{the_row as watch_row}

-- room for a port, or this port
abbrev pub memory_of : (R : RattleType) → Ptr → Option R.Denot → Fml
memory_of R at None = room_at R at
memory_of R at (Some slave) = lies_at R full_share at slave

abbrev pub memory : Ptr → Option RingSlave → Fml
memory = memory_of the_row

abbrev pub wide_memory : Ptr → Option WideRingSlave → Fml
wide_memory = memory_of wide_row

abbrev pub watch_memory : Ptr → Option RingWatch → Fml
watch_memory = memory_of watch_row
