use Rattle.std.proofs.Common.{length}
use Rattle.capture_frame.specs.Chain.{IsChain}
use Rattle.capture_frame.specs.Ipv6.{CarriesOverIpv6, extension_size, next_header}
use Rattle.capture_frame.proofs.Only.{IsSame}
use Rattle.capture_frame.proofs.ipv6.in_extensions.Given as goal

-- what the rest carries, the whole does
abbrev pub invariant-loop-size : goal.invariant-loop-size
invariant-loop-size l =
    IsSame (IsChain extension_size next_header CarriesOverIpv6 l.kind l.rest)
    (IsChain extension_size next_header CarriesOverIpv6 l.first l.octets)

abbrev pub decreases-loop-size : goal.decreases-loop-size
decreases-loop-size l = length l.rest
