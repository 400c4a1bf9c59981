-- The port behind a handle, lent.
use Rattle.std.specs.Borrow.{Lends, MutBor, Fml}
use Rattle.ptpx_c.specs.declared.handle.RawSlave.{RawSlave}
use Rattle.ptpx_c.specs.declared.ring.RingSlave.{RingSlave}
use Rattle.ptpx_c.specs.declared.ring.WideRingSlave.{WideRingSlave}
use Rattle.ptpx_c.specs.declared.wide_handle.RawWideSlave.{RawWideSlave}
use Rattle.ptpx_c.specs.declared.ring_watch.RingWatch.{RingWatch}
use Rattle.ptpx_c.specs.declared.watch_handle.RawWatch.{RawWatch}
use Rattle.ptpx_c.specs.contracts.handle.RawSlave.{the_row as handle_row}
use Rattle.ptpx_c.specs.contracts.ring.RingSlave.{the_row as port_row}
use Rattle.ptpx_c.specs.contracts.ring.WideRingSlave.{the_row as wide_port_row}
use Rattle.ptpx_c.specs.contracts.wide_handle.RawWideSlave.{the_row as wide_handle_row}
use Rattle.ptpx_c.specs.contracts.ring_watch.RingWatch.{the_row as watch_row}
use Rattle.ptpx_c.specs.contracts.watch_handle.RawWatch.{the_row as watch_handle_row}
use Rattle.ptpx_c.specs.Slaves.{with_port, with_wide_port}
use Rattle.ptpx_c.specs.Watches.{with_watch}

-- the handle ends with the port that was left behind the reference
abbrev pub LendsPort : MutBor RawSlave → MutBor RingSlave → Fml
LendsPort handle slave = Lends handle_row port_row handle slave (with_port handle.now)

abbrev pub LendsWidePort : MutBor RawWideSlave → MutBor WideRingSlave → Fml
LendsWidePort handle slave = Lends wide_handle_row wide_port_row handle slave (with_wide_port handle.now)

abbrev pub LendsWatch : MutBor RawWatch → MutBor RingWatch → Fml
LendsWatch handle watch = Lends watch_handle_row watch_row handle watch (with_watch handle.now)
