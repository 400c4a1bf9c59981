use Rattle.std.proofs.Common.{◌∙◌, sym, ap}
use Rattle.std.proofs.Output.{has_written_of_eq}
use Rattle.std.specs.Net.Addr.{IsIpv4OfBits, IsIpv6OfBits}
use Rattle.std.specs.Net.Text.{ipv4_text, ipv6_text}
use Rattle.capture_extract.specs.Streams.{address_text}
use Rattle.capture_extract.proofs.stream.OfInterfaceDisplay.fmt.Goals as goal

pub returns-in-Ipv4-clause-writes : goal.returns-in-Ipv4-clause-writes
unfolding address_text IsIpv4OfBits
returns-in-Ipv4-clause-writes g c = λ plain ok.
    has_written_of_eq _ _ _ _ _ (ap ipv4_text c.from.ensures ∙ ap address_text (sym c.in-Ipv4.is))
    (c.write-in-Ipv4.ensures.writes plain ok)

pub returns-in-Ipv6-clause-writes : goal.returns-in-Ipv6-clause-writes
unfolding address_text IsIpv6OfBits
returns-in-Ipv6-clause-writes g c = λ plain ok.
    has_written_of_eq _ _ _ _ _ (ap ipv6_text c.from-in-Ipv6.ensures ∙ ap address_text (sym c.in-Ipv6.is))
    (c.write-in-Ipv6.ensures.writes plain ok)
