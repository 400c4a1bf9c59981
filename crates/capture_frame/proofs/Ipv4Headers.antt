-- A header of IPv4.
use Rattle.std.proofs.Common.{◌≡◌, ◌∙◌, ℕ, ◌*◌, ◌/◌, ◌%◌, ◌≤◌, true, List, ◌++◌, length, get_or, sym, ap, subst, arith}
use Rattle.std.proofs.lemmas.List.{get_or_append_left}
use Rattle.capture_frame.specs.Ipv4.{IsIpv4, IsIpv4Header, CarriesOverIpv4, ipv4_data, is_unfragmented}
use Rattle.capture_frame.specs.Payload.{Payload, Whole, Part}
use Rattle.capture_frame.specs.Udp.{IsUdp}
use Rattle.capture_frame.specs.Inner.Walk.{IsCut}
use Rattle.capture_frame.proofs.Cuts.{one_cut}

-- what a packet says of a header that was cut off at its length
pub record Ipv4At (header behind : List ℕ) (payload : Payload) : Type 0 where
  pub is_header : IsIpv4Header header
  pub carries : CarriesOverIpv4 header behind payload

-- the header's length stands in the first octet
pub first_octet : (octets header behind : List ℕ) → octets ≡ header ++ behind → 20 ≤ length header → get_or octets 0 0 ≡ get_or header 0 0
first_octet octets header behind parts least =
    ap (λ (o : List ℕ). get_or o 0 0) parts ∙ get_or_append_left header behind 0 0 (omega arith)

pub ipv4_at : (octets header behind : List ℕ) (n : ℕ) (payload : Payload) → IsCut octets n header behind
    → n ≡ 4 * (get_or octets 0 0 % 16) → IsIpv4 octets payload → Ipv4At header behind payload
ipv4_at octets header behind n payload cut at ip =
    let first = first_octet octets ip.header ip.behind ip.parts ip.is_header.least in
    let long : length ip.header ≡ length header =
    ip.is_header.size ∙ sym (ap (λ (k : ℕ). 4 * (k % 16)) first) ∙ sym at ∙ sym cut.size in
    let same = one_cut ip.header ip.behind header behind (sym ip.parts ∙ cut.parts) long in
    record {
      is_header = subst IsIpv4Header same.0 ip.is_header;
      carries = subst (λ (b : List ℕ). CarriesOverIpv4 header b payload) same.1
          (subst (λ (h : List ℕ). CarriesOverIpv4 h ip.behind payload) same.0 ip.carries);
    }

-- the version stands there, too
pub ipv4_version : (octets : List ℕ) (payload : Payload) → IsIpv4 octets payload → get_or octets 0 0 / 16 ≡ 4
ipv4_version octets payload ip =
    ap (λ (n : ℕ). n / 16) (first_octet octets ip.header ip.behind ip.parts ip.is_header.least) ∙ ip.is_header.version

whole_alone : (header behind datagram : List ℕ) (other : Payload) → is_unfragmented header ≡ true
    → ((other : List ℕ) → IsUdp (ipv4_data header behind) other → other ≡ datagram)
    → CarriesOverIpv4 header behind other → other ≡ Whole datagram
whole_alone header behind datagram (Whole other) whole only carries = ap Whole (only other carries.1)
whole_alone header behind datagram Part whole only carries = absurd (cc (whole, carries))

pub ipv4_whole : (octets header behind datagram : List ℕ) (n : ℕ) → IsCut octets n header behind
    → n ≡ 4 * (get_or octets 0 0 % 16) → IsIpv4Header header → is_unfragmented header ≡ true
    → IsUdp (ipv4_data header behind) datagram → ((other : List ℕ) → IsUdp (ipv4_data header behind) other → other ≡ datagram)
    → IsIpv4 octets (Whole datagram) × ((other : Payload) → IsIpv4 octets other → other ≡ Whole datagram)
ipv4_whole octets header behind datagram n cut at is whole udp only = (
  record { header = header; behind = behind; parts = cut.parts; is_header = is; carries = (whole, udp) },
  λ other ip. whole_alone header behind datagram other whole only (ipv4_at octets header behind n other cut at ip).carries,
)

no_part : (header behind : List ℕ) (payload : Payload) → is_unfragmented header ≡ true
    → ((other : List ℕ) → IsUdp (ipv4_data header behind) other → ⊥) → CarriesOverIpv4 header behind payload → ⊥
no_part header behind (Whole other) whole none carries = none other carries.1
no_part header behind Part whole none carries = absurd (cc (whole, carries))

-- what isn't fragmented and has no datagram carries nothing
pub ipv4_none : (octets header behind : List ℕ) (n : ℕ) → IsCut octets n header behind
    → n ≡ 4 * (get_or octets 0 0 % 16) → is_unfragmented header ≡ true
    → ((other : List ℕ) → IsUdp (ipv4_data header behind) other → ⊥) → (payload : Payload) → IsIpv4 octets payload → ⊥
ipv4_none octets header behind n cut at whole none payload ip =
    no_part header behind payload whole none (ipv4_at octets header behind n payload cut at ip).carries
