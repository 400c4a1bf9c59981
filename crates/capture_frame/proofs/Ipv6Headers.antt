-- A header of IPv6, and its extension headers.
use Rattle.std.proofs.Common.{◌≡◌, ◌∙◌, ℕ, ◌≤◌, List, ◌++◌, length, take, get_or, Some, None, sym, ap, subst, refl, arith}
use Rattle.std.specs.Prelude.{◌/◌}
use Rattle.std.proofs.lemmas.Bool.Decides.{nat_tests}
use Rattle.std.proofs.lemmas.List.{get_or_append_left}
use Rattle.capture_frame.specs.Chain.{IsChain}
use Rattle.capture_frame.specs.Ipv6.{IsIpv6, CarriesOverIpv6, extension_size, next_header}
use Rattle.capture_frame.specs.Octets.{two_octets}
use Rattle.capture_frame.specs.Udp.{IsUdp}
use Rattle.capture_frame.specs.Payload.{Payload, Whole, Part}
use Rattle.capture_frame.specs.Inner.Walk.{IsCut}
use Rattle.capture_frame.proofs.Chains.{IsWalkable}
use Rattle.capture_frame.proofs.Only.{IsSame}
use Rattle.capture_frame.proofs.Cuts.{one_cut}

-- what a packet says of a header that was cut off
pub record Ipv6At (header behind : List ℕ) (payload : Payload) : Type 0 where
  pub version : get_or header 0 0 / 16 ≡ 6
  pub carries : IsChain extension_size next_header CarriesOverIpv6 (get_or header 6 0) (take (two_octets header 4) behind) payload

pub ipv6_at : (octets header behind : List ℕ) (payload : Payload) → IsCut octets 40 header behind → IsIpv6 octets payload
    → Ipv6At header behind payload
ipv6_at octets header behind payload cut ip =
    let same = one_cut ip.header ip.behind header behind (sym ip.parts ∙ cut.parts) (ip.size ∙ sym cut.size) in
    let here : Ipv6At ip.header ip.behind payload = record { version = ip.version; carries = ip.carries } in
    subst (λ (b : List ℕ). Ipv6At header b payload) same.1 (subst (λ (h : List ℕ). Ipv6At h ip.behind payload) same.0 here)

-- a packet carries what its extension headers do
pub ipv6_same : (octets header behind inner : List ℕ) → IsCut octets 40 header behind → get_or header 0 0 / 16 ≡ 6
    → inner ≡ take (two_octets header 4) behind
    → IsSame (IsChain extension_size next_header CarriesOverIpv6 (get_or header 6 0) inner) (IsIpv6 octets)
ipv6_same octets header behind inner cut version is = record {
  to = λ payload chain. record {
    header = header;
    behind = behind;
    parts = cut.parts;
    size = cut.size;
    version = version;
    carries = subst (λ (o : List ℕ). IsChain extension_size next_header CarriesOverIpv6 (get_or header 6 0) o payload) is chain;
  };
  back = λ payload ip. subst (λ (o : List ℕ). IsChain extension_size next_header CarriesOverIpv6 (get_or header 6 0) o payload) (sym is)
      (ipv6_at octets header behind payload cut ip).carries;
}

pub ipv6_version : (octets : List ℕ) (payload : Payload) → IsIpv6 octets payload → get_or octets 0 0 / 16 ≡ 6
ipv6_version octets payload ip =
    let first : get_or octets 0 0 ≡ get_or ip.header 0 0 =
    ap (λ (o : List ℕ). get_or o 0 0) ip.parts ∙ get_or_append_left ip.header ip.behind 0 0 (omega (arith, ip.size)) in
    ap (λ (n : ℕ). n / 16) first ∙ ip.version

-- an extension header has eight octets or more
extension_least : (kind : ℕ) (octets : List ℕ) (n : ℕ) → extension_size kind octets ≡ Some n → 8 ≤ n
extension_least kind octets n h = grind (arith, nat_tests)

-- its size is told by the first eight
extension_same : (kind : ℕ) (header behind : List ℕ) → 8 ≤ length header → extension_size kind (header ++ behind) ≡ extension_size kind header
extension_same kind header behind least =
    rw (get_or_append_left header behind 0 1 (omega arith), get_or_append_left header behind 0 2 (omega arith), get_or_append_left header behind 0 3 (omega arith)) refl

no_extension : (kind : ℕ) (octets : List ℕ) (payload : Payload) → CarriesOverIpv6 kind octets payload → extension_size kind octets ≡ None
no_extension kind octets (Whole datagram) h = rw h.0 refl
no_extension kind octets Part h = rw (h.0, h.2) refl

pub extensions : IsWalkable extension_size CarriesOverIpv6
extensions = record {
  longer = λ kind header behind h. extension_same kind header behind (extension_least kind header (length header) h) ∙ h;
  shorter = λ kind header behind h. sym (extension_same kind header behind (extension_least kind (header ++ behind) (length header) h)) ∙ h;
  ends = no_extension;
}

-- what has no datagram carries nothing
pub udp_none : (octets : List ℕ) (payload : Payload) → ((other : List ℕ) → IsUdp octets other → ⊥) → CarriesOverIpv6 17 octets payload → ⊥
udp_none octets (Whole datagram) none h = none datagram h.1
udp_none octets Part none h = absurd (omega (arith, h.0))

udp_alone : (octets datagram : List ℕ) (payload : Payload) → ((other : List ℕ) → IsUdp octets other → other ≡ datagram)
    → CarriesOverIpv6 17 octets payload → payload ≡ Whole datagram
udp_alone octets datagram (Whole other) only h = ap Whole (only other h.1)
udp_alone octets datagram Part only h = absurd (omega (arith, h.0))

pub udp_whole : (octets datagram : List ℕ) → IsUdp octets datagram → ((other : List ℕ) → IsUdp octets other → other ≡ datagram)
    → CarriesOverIpv6 17 octets (Whole datagram) × ((payload : Payload) → CarriesOverIpv6 17 octets payload → payload ≡ Whole datagram)
udp_whole octets datagram udp only = ((refl, udp), λ payload h. udp_alone octets datagram payload only h)
