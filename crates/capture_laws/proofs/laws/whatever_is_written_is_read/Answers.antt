use Rattle.capture_laws.proofs.Writing.{pcap_is_read}
use Rattle.capture_laws.proofs.WritingSections.{pcapng_is_read}
use Rattle.capture_laws.proofs.laws.whatever_is_written_is_read.Goals as goal

pub returns-clause-pcap : goal.returns-clause-pcap
returns-clause-pcap c = pcap_is_read

pub returns-clause-pcapng : goal.returns-clause-pcapng
returns-clause-pcapng c = pcapng_is_read
