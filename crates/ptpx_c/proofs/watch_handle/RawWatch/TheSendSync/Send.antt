-- A handle with its port may go to another thread.
use denote.Param.Send.{IsSend, AllSend, owning_send, struct_send}
use denote.Struct.Owning.{fields, shape, to}
use denote.Struct.Struct.{exits_of}
use Rattle.ptpx_c.specs.contracts.watch_handle.RawWatch.{the_row, the_type}
use Rattle.ptpx_c.specs.contracts.ring_watch.RingWatch.{the_row as port_row}
use Rattle.ptpx_c.proofs.ring_watch.RingWatch.TheSendSync.{the_send}
use Rattle.ptpx_c.proofs.Sent.{pointer_send, memory_keyless, left_quiet}

pub send : IsSend the_row
send =
    let all : AllSend (fields the_type) = (pointer_send, tt) in
    owning_send the_type all (λ d. memory_keyless port_row the_send d.at d.port) (λ k. left_quiet (to the_type) (exits_of k (fields the_type)) ((struct_send (shape the_type) all).leaving k))
