use Rattle.capture_frame.proofs.Writing.{ethernet_found, ipv4_found, ipv6_found}
use Rattle.capture_frame.proofs.laws.found_as_written.Goals as goal

pub returns-clause-ethernet : goal.returns-clause-ethernet
returns-clause-ethernet c = ethernet_found

pub returns-clause-ipv4 : goal.returns-clause-ipv4
returns-clause-ipv4 c = ipv4_found

pub returns-clause-ipv6 : goal.returns-clause-ipv6
returns-clause-ipv6 c = ipv6_found
