use Rattle.std.proofs.Common.{sym}
use Rattle.capture_frame.specs.Chain.{IsChain}
use Rattle.capture_frame.specs.Ipv6.{CarriesOverIpv6, extension_size, next_header}
use Rattle.capture_frame.specs.Inner.Walk.{payload_of}
use Rattle.capture_frame.proofs.Chains.{chain_cut, chain_end, chain_step}
use Rattle.capture_frame.proofs.Ipv6Headers.{extensions}
use Rattle.capture_frame.proofs.Only.{none_only, only_same, same_along}
use Rattle.capture_frame.proofs.ipv6.in_extensions.Goals as goal

pub returns-in_err-header : goal.returns-in_err-header
returns-in_err-header c =
    none_only payload_of (IsChain extension_size next_header CarriesOverIpv6 c.args.first c.args.octets.now) c.from_residual.result c.from_residual.ensures
    (λ payload h. chain_cut extension_size next_header CarriesOverIpv6 extensions c.loop-size.kind c.loop-size.rest.now c.in-Some.size
    (sym c.in-Some.ensures) c.in_err-header.ensures payload (c.loop-size.invariant.back payload h))

pub loop-size-preserved : goal.loop-size-preserved
loop-size-preserved c =
    same_along _ _ _
    (chain_step extension_size next_header CarriesOverIpv6 extensions c.loop-size.kind c.octet_at-kind.result c.loop-size.rest.now c.in-Some.size
    c.in_ok-header.header.now c.in_ok-header.behind.now (sym c.in-Some.ensures) c.in_ok-header.ensures c.octet_at-kind.ensures)
    c.loop-size.invariant

pub returns : goal.returns
returns c =
    only_same _ _ _
    (same_along _ _ _
    (chain_end extension_size next_header CarriesOverIpv6 extensions c.loop-size.kind c.loop-size.rest.now (sym c.in_default.ensures))
    c.loop-size.invariant)
    c.behind_extensions.ensures
