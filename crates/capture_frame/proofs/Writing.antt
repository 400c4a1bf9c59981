-- Packets as a sender writes them are found.
use Rattle.std.proofs.Common.{◌≡◌, ◌∙◌, ℕ, ◌+◌, ◌-◌, ◌*◌, ◌/◌, ◌%◌, ◌==◌, ◌&&◌, ◌⊎◌, List, [], ◌∷◌, ◌++◌, length, take, get_or, true, Some, refl, sym, ap, subst, inl, inr, arith}
use Rattle.std.proofs.Common.{append_assoc, length-append}
use Rattle.std.specs.Prelude.{All}
use Rattle.std.proofs.lemmas.Bool.{ne_eqb}
use Rattle.std.proofs.lemmas.List.{take_all, take_at, get_or_at, get_or-append-add}
use Rattle.std.proofs.lemmas.List.Elements.{All-head, All-tail}
use Rattle.capture_frame.specs.Chain.{IsChain}
use Rattle.capture_frame.specs.Ipv4.{IsIpv4, ipv4_data}
use Rattle.capture_frame.specs.Ipv6.{IsIpv6, CarriesOverIpv6, extension_size, next_header}
use Rattle.capture_frame.specs.Link.{IsFrame}
use Rattle.capture_frame.specs.Octets.{two_octets}
use Rattle.capture_frame.specs.Payload.{Payload, Whole}
use Rattle.capture_frame.specs.Tags.{CarriesByType, IsTagged, next_type, tag_size}
use Rattle.capture_frame.specs.Udp.{IsPtpPort, IsUdp}
use Rattle.capture_frame.specs.Written.{UdpHeader, udp_octets, in_two, Ipv4Header, IsIpv4Whole, ipv4_front, ipv4_octets}
use Rattle.capture_frame.specs.Written.{Extension, IsExtension, first_number, extended, Ipv6Header, IsIpv6Header, ipv6_front, ipv6_octets}
use Rattle.capture_frame.specs.Written.{Tag, IsTag, first_type, tagged, ethernet_octets, FindsOverEthernet, FindsOverIpv4, FindsOverIpv6}
use Rattle.capture_frame.proofs.Chains.{chain_front, chain_none}

-- two octets are the number that they were written of
two_back : (n : ℕ) → 256 * (n / 256) + n % 256 ≡ n
two_back n = omega arith

-- ---- UDP

udp_written : (header : UdpHeader) (datagram : List ℕ) → IsPtpPort header.destination → IsUdp (udp_octets header datagram) datagram
udp_written header datagram port = record {
  header = in_two header.source ++ in_two header.destination ++ in_two (8 + length datagram) ++ in_two header.checksum;
  behind = datagram;
  parts = refl;
  size = refl;
  destination = subst IsPtpPort (sym (two_back header.destination)) port;
  least = omega (arith, two_back (8 + length datagram));
  captured = sym (take_all _ datagram (omega (arith, two_back (8 + length datagram))));
}

-- ---- IPv4

whole_flags : (flags : ℕ) → (flags ≡ 0) ⊎ (flags ≡ 64)
    → ((256 * flags + 0) % 8192 == 0 && (256 * flags + 0) / 8192 % 2 == 0) ≡ true
whole_flags flags (inl h) = rw h refl
whole_flags flags (inr h) = rw h refl

length_front : (header : Ipv4Header) (count : ℕ) → IsIpv4Whole header → length (ipv4_front header count) ≡ 20 + 4 * header.words
length_front header count is = omega (arith, is.two_addresses, is.padded, length-append header.addresses header.options)

ipv4_written : (header : Ipv4Header) (payload padding datagram : List ℕ) → IsIpv4Whole header → IsUdp payload datagram
    → IsIpv4 (ipv4_octets header payload ++ padding) (Whole datagram)
ipv4_written header payload padding datagram is udp =
    let front = ipv4_front header (length payload) in
    let long = length_front header (length payload) is in
    let total : two_octets front 2 ≡ 20 + 4 * header.words + length payload = two_back (20 + 4 * header.words + length payload) in
    let told : two_octets front 2 ≡ 0 → ⊥ = λ e. omega arith in
    let count : length payload ≡ two_octets front 2 - length front = omega arith in
    let inside : ipv4_data front (payload ++ padding) ≡ payload =
    rw (ne_eqb (two_octets front 2) 0 told) (take_at payload padding (two_octets front 2 - length front) count) in
    record {
      header = front;
      behind = payload ++ padding;
      parts = append_assoc front payload padding;
      is_header = record {
        version = omega (arith, is.most);
        size = omega (arith, is.most, long);
        least = omega (arith, long);
        total_length = inr (omega (arith, long, total));
        protocol = refl;
      };
      carries = (whole_flags header.flags is.flag, subst (λ (o : List ℕ). IsUdp o datagram) (sym inside) udp);
    }

-- ---- IPv6

extension_sized : (header : Extension) (next : ℕ) → IsExtension header
    → extension_size header.kind (next ∷ header.second ∷ header.content) ≡ Some (length (next ∷ header.second ∷ header.content))
extension_sized header next (inl (inl h, long)) =
    let e : 8 + 8 * header.second ≡ length (next ∷ header.second ∷ header.content) = omega (arith, long) in
    rw h (ap (λ (k : ℕ). Some k) e)
extension_sized header next (inl (inr (inl h), long)) =
    let e : 8 + 8 * header.second ≡ length (next ∷ header.second ∷ header.content) = omega (arith, long) in
    rw h (ap (λ (k : ℕ). Some k) e)
extension_sized header next (inl (inr (inr h), long)) =
    let e : 8 + 8 * header.second ≡ length (next ∷ header.second ∷ header.content) = omega (arith, long) in
    rw h (ap (λ (k : ℕ). Some k) e)
extension_sized header next (inr (h, (identification, is, long))) =
    let e : 8 ≡ length (next ∷ header.second ∷ 0 ∷ 0 ∷ identification) = omega (arith, long) in
    rw (h, is) (ap (λ (k : ℕ). Some k) e)

extensions_written : (headers : List Extension) (last : ℕ) (octets : List ℕ) (payload : Payload) → All IsExtension headers
    → CarriesOverIpv6 last octets payload
    → IsChain extension_size next_header CarriesOverIpv6 (first_number headers last) (extended headers last octets) payload
extensions_written [] last octets payload are h = chain_none extension_size next_header CarriesOverIpv6 last octets payload h
extensions_written (header ∷ headers) last octets payload are h =
    chain_front extension_size next_header CarriesOverIpv6 header.kind payload
    (first_number headers last ∷ header.second ∷ header.content) (extended headers last octets)
    (extension_sized header (first_number headers last) (All-head IsExtension header headers are))
    (extensions_written headers last octets payload (All-tail IsExtension header headers are) h)

ipv6_written : (header : Ipv6Header) (extensions : List Extension) (payload padding datagram : List ℕ) → IsIpv6Header header
    → All IsExtension extensions → IsUdp payload datagram → IsIpv6 (ipv6_octets header extensions payload ++ padding) (Whole datagram)
ipv6_written header extensions payload padding datagram is are udp =
    let inner = extended extensions 17 payload in
    let next = first_number extensions 17 in
    let front = ipv6_front header next (length inner) in
    let count : length inner ≡ two_octets front 4 = sym (two_back (length inner)) in
    let inside : take (two_octets front 4) (inner ++ padding) ≡ inner = take_at inner padding (two_octets front 4) count in
    record {
      header = front;
      behind = inner ++ padding;
      parts = append_assoc front inner padding;
      size = omega (arith, is.two_addresses);
      version = omega (arith, is.within);
      carries = subst (λ (o : List ℕ). IsChain extension_size next_header CarriesOverIpv6 next o (Whole datagram)) (sym inside)
          (extensions_written extensions 17 payload (Whole datagram) are (refl, udp));
    }

-- ---- tags

tag_sized : (tag : Tag) (next : ℕ) → IsTag tag → tag_size tag.kind (tag.content ++ in_two next) ≡ Some (length (tag.content ++ in_two next))
tag_sized tag next (inl (inl h, long)) =
    let e : 4 ≡ length (tag.content ++ in_two next) = omega (arith, long, length-append tag.content (in_two next)) in
    rw h (ap (λ (k : ℕ). Some k) e)
tag_sized tag next (inl (inr (inl h), long)) =
    let e : 4 ≡ length (tag.content ++ in_two next) = omega (arith, long, length-append tag.content (in_two next)) in
    rw h (ap (λ (k : ℕ). Some k) e)
tag_sized tag next (inl (inr (inr h), long)) =
    let e : 4 ≡ length (tag.content ++ in_two next) = omega (arith, long, length-append tag.content (in_two next)) in
    rw h (ap (λ (k : ℕ). Some k) e)
tag_sized tag next (inr (inl h, long)) =
    let e : 6 ≡ length (tag.content ++ in_two next) = omega (arith, long, length-append tag.content (in_two next)) in
    rw h (ap (λ (k : ℕ). Some k) e)
tag_sized tag next (inr (inr h, long)) =
    let e : 6 ≡ length (tag.content ++ in_two next) = omega (arith, long, length-append tag.content (in_two next)) in
    rw h (ap (λ (k : ℕ). Some k) e)

type_behind : (content : List ℕ) (next : ℕ) → two_octets (content ++ in_two next) (length (content ++ in_two next) - 2) ≡ next
type_behind content next =
    let place : length (content ++ in_two next) - 2 ≡ length content = omega (arith, length-append content (in_two next)) in
    let high : get_or (content ++ in_two next) (length content) 0 ≡ next / 256 = get_or_at content (next / 256) (next % 256 ∷ []) 0 (length content) refl in
    let low : get_or (content ++ in_two next) (length content + 1) 0 ≡ next % 256 = get_or-append-add content (in_two next) 1 0 in
    let number : two_octets (content ++ in_two next) (length content) ≡ next = omega (arith, high, low, two_back next) in
    ap (two_octets (content ++ in_two next)) place ∙ number

tags_written : (tags : List Tag) (last : ℕ) (octets : List ℕ) (payload : Payload) → All IsTag tags → CarriesByType last octets payload
    → IsTagged (first_type tags last) (tagged tags last octets) payload
tags_written [] last octets payload are h = chain_none tag_size next_type CarriesByType last octets payload h
tags_written (tag ∷ tags) last octets payload are h =
    chain_front tag_size next_type CarriesByType tag.kind payload (tag.content ++ in_two (first_type tags last)) (tagged tags last octets)
    (tag_sized tag (first_type tags last) (All-head IsTag tag tags are))
    (subst (λ (k : ℕ). IsTagged k (tagged tags last octets) payload) (sym (type_behind tag.content (first_type tags last)))
    (tags_written tags last octets payload (All-tail IsTag tag tags are) h))

frame_written : (addresses : List ℕ) (tags : List Tag) (last : ℕ) (octets : List ℕ) (payload : Payload) → length addresses ≡ 12
    → All IsTag tags → CarriesByType last octets payload → IsFrame 14 12 (ethernet_octets addresses tags last octets) payload
frame_written addresses tags last octets payload two are h =
    let long : length (addresses ++ in_two (first_type tags last)) ≡ 14 = omega (arith, two, length-append addresses (in_two (first_type tags last))) in
    let place : length (addresses ++ in_two (first_type tags last)) - 2 ≡ 12 = omega arith in
    let kind : two_octets (addresses ++ in_two (first_type tags last)) 12 ≡ first_type tags last =
    sym (ap (two_octets (addresses ++ in_two (first_type tags last))) place) ∙ type_behind addresses (first_type tags last) in
    record {
      header = addresses ++ in_two (first_type tags last);
      behind = tagged tags last octets;
      parts = refl;
      size = long;
      carries = subst (λ (k : ℕ). IsTagged k (tagged tags last octets) payload) (sym kind) (tags_written tags last octets payload are h);
    }

-- ---- whole frames

pub ethernet_found : FindsOverEthernet
ethernet_found addresses tags datagram sent =
    (frame_written addresses tags 0x88f7 datagram (Whole datagram) sent.two_addresses sent.are_tags (inl (refl, refl)), sent.short)

pub ipv4_found : FindsOverIpv4
ipv4_found addresses tags header udp datagram padding sent whole port = (
  frame_written addresses tags 0x0800 (ipv4_octets header (udp_octets udp datagram) ++ padding) (Whole datagram) sent.two_addresses sent.are_tags
      (inr (inl (refl, ipv4_written header (udp_octets udp datagram) padding datagram whole (udp_written udp datagram port)))),
  sent.short,
)

pub ipv6_found : FindsOverIpv6
ipv6_found addresses tags header extensions udp datagram padding sent is are port = (
  frame_written addresses tags 0x86dd (ipv6_octets header extensions (udp_octets udp datagram) ++ padding) (Whole datagram) sent.two_addresses sent.are_tags
      (inr (inr (refl, ipv6_written header extensions (udp_octets udp datagram) padding datagram is are (udp_written udp datagram port)))),
  sent.short,
)
