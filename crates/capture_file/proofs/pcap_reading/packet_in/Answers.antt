use Rattle.std.proofs.Common.{rules}
use Rattle.capture_file.proofs.Packets.{captured_is}
use Rattle.capture_file.proofs.pcap_reading.packet_in.Goals as goal

pub returns : goal.returns
returns c = captured_is _ c.in-Some.time c.args.head.link c.args.octets.now (search rules) c.requires.most
