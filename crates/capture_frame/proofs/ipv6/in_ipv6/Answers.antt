use Rattle.std.proofs.Common.{ℕ, ◌∙◌, take, ap}
use Rattle.capture_frame.proofs.Ipv6Headers.{ipv6_same}
use Rattle.capture_frame.proofs.Only.{only_same}
use Rattle.capture_frame.proofs.ipv6.in_ipv6.Goals as goal

pub returns : goal.returns
returns c =
    only_same _ _ _
    (ipv6_same c.args.octets.now c.in_ok-header.header.now c.in_ok-header.behind.now c.front.result.now c.in_ok-header.ensures c.if-header-ne6.false
    (c.front.ensures ∙ ap (λ (n : ℕ). take n c.in_ok-header.behind.now) (c.from.ensures ∙ c.u16_at.ensures)))
    c.in_extensions.ensures
