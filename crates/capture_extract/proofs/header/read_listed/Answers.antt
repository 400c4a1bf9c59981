use Rattle.datagram_source.specs.Datagram.{datagram_of}
use Rattle.capture_extract.proofs.Messages.{read_is}
use Rattle.capture_extract.proofs.header.read_listed.Goals as goal

pub returns : goal.returns
returns c =
    read_is (datagram_of c.args.datagram.now) c.in-Ok.read.0 c.in-Ok.read.1 c.in_ok-requesting.requesting
    c.from_number-message.result c.in-Ok.ensures.0 c.in-Ok.ensures.1 c.from_number-message.ensures c.in_ok-requesting.ensures
