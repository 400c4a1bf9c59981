use Rattle.capture_frame.proofs.Only.{only_same}
use Rattle.capture_frame.proofs.Tagged.{ipv4_by_type, ipv6_by_type}
use Rattle.capture_frame.proofs.ether.behind_tags.Goals as goal

pub returns-in-2048 : goal.returns-in-2048
returns-in-2048 c = rw c.in-2048.is (only_same _ _ _ (ipv4_by_type c.args.octets.now) c.in_ipv4.ensures)

pub returns-in-34525 : goal.returns-in-34525
returns-in-34525 c = rw c.in-34525.is (only_same _ _ _ (ipv6_by_type c.args.octets.now) c.in_ipv6.ensures)
