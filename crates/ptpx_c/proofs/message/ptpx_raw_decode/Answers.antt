use Rattle.std.proofs.Common.{take}
use Rattle.event_codec.specs.Packet.{contents}
use Rattle.ptpx_c.proofs.Decoded.{suffix_fits, decoded_as_read}
use Rattle.ptpx_c.proofs.message.ptpx_raw_decode.Goals as goal

pub of-requires : goal.of-requires
of-requires c = suffix_fits (contents c.in-Ok.read) (take c.in-Ok.field-0-1 c.args.octets.now) c.in-Ok.ensures.read.1

pub returns-in-Ok : goal.returns-in-Ok
returns-in-Ok c = λ said h.
    rw c.of.ensures (decoded_as_read c.in-Ok.read c.in-Ok.field-0-1 said c.args.message.now (c.in-Ok.ensures.reading said h))
