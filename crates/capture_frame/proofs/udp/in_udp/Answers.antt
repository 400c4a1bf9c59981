use Rattle.std.proofs.Common.{ℕ, ◌∙◌, take, ap, refl, subst, arith}
use Rattle.capture_frame.specs.Udp.{IsPtpPort}
use Rattle.capture_frame.proofs.UdpHeaders.{udp_only}
use Rattle.capture_frame.proofs.udp.in_udp.Goals as goal

pub returns : goal.returns
returns c =
    let is = c.if-not-is_ptp_port.ensures in
    udp_only c.args.octets.now c.in_ok-header.header.now c.in_ok-header.behind.now c.front.result.now c.in_ok-header.ensures (record {
      destination = subst IsPtpPort c.u16_at.ensures (is.0 refl);
      least = omega (arith, c.in_ok-length.ensures);
      captured = c.front.ensures ∙ ap (λ (n : ℕ). take n c.in_ok-header.behind.now) (omega (arith, c.in_ok-length.ensures));
    })
