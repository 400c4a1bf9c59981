use Rattle.capture_frame.specs.Ipv6.{CarriesOverIpv6}
use Rattle.capture_frame.specs.Inner.Walk.{payload_of}
use Rattle.capture_frame.proofs.Ipv6Headers.{udp_none, udp_whole}
use Rattle.capture_frame.proofs.Only.{none_only}
use Rattle.capture_frame.proofs.ipv6.behind_extensions.Goals as goal

pub returns-in_err-in_udp-in-17 : goal.returns-in_err-in_udp-in-17
returns-in_err-in_udp-in-17 c =
    let none = c.in_err-in_udp-in-17.ensures in
    rw c.in-17.is
    (none_only payload_of (CarriesOverIpv6 17 c.args.octets.now) c.from_residual.result c.from_residual.ensures
    (λ payload h. udp_none c.args.octets.now payload none h))

pub returns-in_ok-in_udp-in-17 : goal.returns-in_ok-in_udp-in-17
returns-in_ok-in_udp-in-17 c =
    let only = c.in_ok-in_udp-in-17.ensures in
    rw c.in-17.is (udp_whole c.args.octets.now c.in_ok-in_udp-in-17.field-0.now only.0 only.1)
