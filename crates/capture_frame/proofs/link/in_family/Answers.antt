use Rattle.capture_frame.proofs.Families.{ipv4_by_family, ipv6_by_family}
use Rattle.capture_frame.proofs.Only.{only_same}
use Rattle.capture_frame.proofs.link.in_family.Goals as goal

pub returns-in-2 : goal.returns-in-2
returns-in-2 c = rw c.in-2.is (only_same _ _ _ (ipv4_by_family c.args.octets.now) c.in_ipv4.ensures)

pub returns-in-24 : goal.returns-in-24
returns-in-24 c = only_same _ _ _ (ipv6_by_family c.args.family c.args.octets.now c.in-24.is) c.in_ipv6.ensures
