use Rattle.std.proofs.Common.{◌≡◌, ℕ, ◌∙◌, ◌*◌, ◌%◌, List, get_or, sym, ap, subst}
use Rattle.capture_frame.specs.Ipv4.{IsIpv4}
use Rattle.capture_frame.specs.Inner.Walk.{payload_of}
use Rattle.capture_frame.specs.Udp.{IsUdp}
use Rattle.capture_frame.proofs.Ipv4Headers.{ipv4_none, ipv4_whole, first_octet}
use Rattle.capture_frame.proofs.Only.{none_only}
use Rattle.capture_frame.proofs.ipv4.in_ipv4.Goals as goal

pub returns-in_err-in_udp : goal.returns-in_err-in_udp
returns-in_err-in_udp c =
    let octets = c.args.octets.now in
    let header = c.in_ok-header.header.now in
    let behind = c.in_ok-header.behind.now in
    let size : 4 * c.from.result ≡ 4 * (get_or octets 0 0 % 16) = ap (λ (n : ℕ). 4 * n) c.from.ensures ∙ ap (λ (n : ℕ). 4 * (n % 16)) c.octet_at.ensures in
    let none = c.in_err-in_udp.ensures in
    none_only payload_of (IsIpv4 octets) c.from_residual-in_err-in_udp.result c.from_residual-in_err-in_udp.ensures
    (ipv4_none octets header behind (4 * c.from.result) c.in_ok-header.ensures size (sym c.if-not-is_unfragmented.ensures)
    (λ other udp. none other (subst (λ (o : List ℕ). IsUdp o other) (sym c.in_ok-payload.ensures.1) udp)))

pub returns : goal.returns
returns c =
    let octets = c.args.octets.now in
    let header = c.in_ok-header.header.now in
    let behind = c.in_ok-header.behind.now in
    let size : 4 * c.from.result ≡ 4 * (get_or octets 0 0 % 16) = ap (λ (n : ℕ). 4 * n) c.from.ensures ∙ ap (λ (n : ℕ). 4 * (n % 16)) c.octet_at.ensures in
    let cut = c.in_ok-header.ensures in
    let udp = c.in_ok-in_udp.ensures in
    let is = c.in_ok-payload.ensures in
    ipv4_whole octets header behind c.in_ok-in_udp.field-0.now (4 * c.from.result) cut size
    (record {
      version = c.if-header-ne4.false;
      size = cut.size ∙ size ∙ ap (λ (n : ℕ). 4 * (n % 16)) (first_octet octets header behind cut.parts c.if-header-lt20.false);
      least = c.if-header-lt20.false;
      total_length = is.0;
      protocol = c.if-header-ne-UDP.false;
    })
    (sym c.if-not-is_unfragmented.ensures)
    (subst (λ (o : List ℕ). IsUdp o c.in_ok-in_udp.field-0.now) is.1 udp.0)
    (λ other h. udp.1 other (subst (λ (o : List ℕ). IsUdp o other) (sym is.1) h))
