-- A header of UDP.
use Rattle.std.proofs.Common.{◌≡◌, ◌∙◌, ℕ, ◌-◌, ◌≤◌, List, take, sym, subst}
use Rattle.capture_frame.specs.Octets.{two_octets}
use Rattle.capture_frame.specs.Udp.{IsPtpPort, IsUdp}
use Rattle.capture_frame.specs.Inner.Walk.{IsCut}
use Rattle.capture_frame.proofs.Cuts.{one_cut}

-- what a datagram says of a header that was cut off
pub record UdpAt (header behind datagram : List ℕ) : Type 0 where
  pub destination : IsPtpPort (two_octets header 2)
  pub least : 8 ≤ two_octets header 4
  pub captured : datagram ≡ take (two_octets header 4 - 8) behind

pub udp_at : (octets header behind datagram : List ℕ) → IsCut octets 8 header behind → IsUdp octets datagram → UdpAt header behind datagram
udp_at octets header behind datagram cut udp =
    let same = one_cut udp.header udp.behind header behind (sym udp.parts ∙ cut.parts) (udp.size ∙ sym cut.size) in
    let here : UdpAt udp.header udp.behind datagram = record {
      destination = udp.destination;
      least = udp.least;
      captured = udp.captured;
    } in
    subst (λ (b : List ℕ). UdpAt header b datagram) same.1 (subst (λ (h : List ℕ). UdpAt h udp.behind datagram) same.0 here)

pub udp_only : (octets header behind datagram : List ℕ) → IsCut octets 8 header behind → UdpAt header behind datagram
    → IsUdp octets datagram × ((other : List ℕ) → IsUdp octets other → other ≡ datagram)
udp_only octets header behind datagram cut at = (
  record {
    header = header;
    behind = behind;
    parts = cut.parts;
    size = cut.size;
    destination = at.destination;
    least = at.least;
    captured = at.captured;
  },
  λ other udp. (udp_at octets header behind other cut udp).captured ∙ sym at.captured,
)
