-- Packets as a sender writes them, octet for octet.
use Rattle.std.specs.Prelude.{◌≡◌, ℕ, ◌+◌, ◌*◌, ◌/◌, ◌%◌, ◌^◌, ◌<◌, ◌≤◌, ◌⊎◌, List, [], ◌∷◌, ◌++◌, All, length}
use Rattle.capture_frame.specs.Found.{Datagram, IsFound, datagram_limit}
use Rattle.capture_frame.specs.Udp.{IsPtpPort}

-- a number below 65,536 in two octets
abbrev pub in_two : ℕ → List ℕ
in_two number = number / 256 ∷ number % 256 ∷ []

-- a header of UDP (RFC 768)
pub record UdpHeader : Type 0 where
  pub source : ℕ
  pub destination : ℕ
  pub checksum : ℕ

-- a datagram behind its header
abbrev pub udp_octets : UdpHeader → List ℕ → List ℕ
udp_octets header datagram =
    in_two header.source ++ in_two header.destination ++ in_two (8 + length datagram) ++ in_two header.checksum
    ++ datagram

-- a header of IPv4 for a whole datagram, with so many words of options (RFC 791)
pub record Ipv4Header : Type 0 where
  pub service : ℕ
  pub identification : ℕ
  pub flags : ℕ
  pub time_to_live : ℕ
  pub checksum : ℕ
  pub addresses : List ℕ
  pub words : ℕ
  pub options : List ℕ

-- of the flags only Don't Fragment may be set
pub record IsIpv4Whole (header : Ipv4Header) : Type 0 where
  pub flag : (header.flags ≡ 0) ⊎ (header.flags ≡ 64)
  pub two_addresses : length header.addresses ≡ 8
  pub padded : length header.options ≡ 4 * header.words
  pub most : header.words ≤ 10

-- the header in front of so many octets: version 4, and protocol 17
abbrev pub ipv4_front : Ipv4Header → ℕ → List ℕ
ipv4_front header count =
    (16 * 4 + (5 + header.words)) ∷ header.service ∷ in_two (20 + 4 * header.words + count)
    ++ in_two header.identification ++ (header.flags ∷ 0 ∷ header.time_to_live ∷ 17 ∷ in_two header.checksum)
    ++ header.addresses ++ header.options

-- what goes over IPv4, behind its header
abbrev pub ipv4_octets : Ipv4Header → List ℕ → List ℕ
ipv4_octets header payload = ipv4_front header (length payload) ++ payload

-- an extension header of IPv6, of which the first octet is the number of the next header (RFC 8200)
pub record Extension : Type 0 where
  pub kind : ℕ
  pub second : ℕ
  pub content : List ℕ

-- hop-by-hop options, routing or destination options, whose second octet counts what is behind the first eight, in eights
abbrev pub IsOptions : Extension → Type 0
IsOptions header =
    ((header.kind ≡ 0) ⊎ ((header.kind ≡ 43) ⊎ (header.kind ≡ 60))) × (length header.content ≡ 6 + 8 * header.second)

-- a fragment header of a whole packet: two octets of 0, and an identification
abbrev pub IsWholeFragment : Extension → Type 0
IsWholeFragment header =
    (header.kind ≡ 44)
    × ((identification : List ℕ) × (header.content ≡ 0 ∷ 0 ∷ identification) × (length identification ≡ 4))

abbrev pub IsExtension : Extension → Type 0
IsExtension header = IsOptions header ⊎ IsWholeFragment header

-- the number of the first of these headers, in front of one of number `last`
abbrev pub first_number : List Extension → (last : ℕ) → ℕ
first_number [] last = last
first_number (header ∷ headers) last = header.kind

-- extension headers in front of what is of number `last`
abbrev pub extended : List Extension → (last : ℕ) → List ℕ → List ℕ
extended [] last payload = payload
extended (header ∷ headers) last payload =
    (first_number headers last ∷ header.second ∷ header.content) ++ extended headers last payload

-- a header of IPv6: traffic class and flow label in one number, hop limit, and two addresses
pub record Ipv6Header : Type 0 where
  pub flow : ℕ
  pub hop_limit : ℕ
  pub addresses : List ℕ

pub record IsIpv6Header (header : Ipv6Header) : Type 0 where
  pub within : header.flow < 2 ^ 28
  pub two_addresses : length header.addresses ≡ 32

-- the header in front of so many octets: version 6
abbrev pub ipv6_front : Ipv6Header → (next count : ℕ) → List ℕ
ipv6_front header next count =
    (16 * 6 + header.flow / 2 ^ 24) ∷ header.flow / 2 ^ 16 % 256 ∷ header.flow / 256 % 256 ∷ header.flow % 256
    ∷ in_two count ++ (next ∷ header.hop_limit ∷ header.addresses)

-- the header, and behind it extension headers, the last of which announces UDP
abbrev pub ipv6_octets : Ipv6Header → List Extension → List ℕ → List ℕ
ipv6_octets header extensions payload =
    ipv6_front header (first_number extensions 17) (length (extended extensions 17 payload))
    ++ extended extensions 17 payload

-- a tag, of which the last two octets are the next EtherType
pub record Tag : Type 0 where
  pub kind : ℕ
  pub content : List ℕ

-- a tag of a VLAN has two octets of content, one of redundancy or of HSR has four
abbrev pub IsTag : Tag → Type 0
IsTag tag =
    (((tag.kind ≡ 0x8100) ⊎ ((tag.kind ≡ 0x88a8) ⊎ (tag.kind ≡ 0x9100))) × (length tag.content ≡ 2))
    ⊎ (((tag.kind ≡ 0xf1c1) ⊎ (tag.kind ≡ 0x892f)) × (length tag.content ≡ 4))

-- the EtherType of the first of these tags, in front of what is of type `last`
abbrev pub first_type : List Tag → (last : ℕ) → ℕ
first_type [] last = last
first_type (tag ∷ tags) last = tag.kind

-- what stands behind the first EtherType
abbrev pub tagged : List Tag → (last : ℕ) → List ℕ → List ℕ
tagged [] last payload = payload
tagged (tag ∷ tags) last payload = (tag.content ++ in_two (first_type tags last)) ++ tagged tags last payload

-- two addresses, and tags in front of what is of type `last`
abbrev pub ethernet_octets : (addresses : List ℕ) → List Tag → (last : ℕ) → List ℕ → List ℕ
ethernet_octets addresses tags last payload =
    (addresses ++ in_two (first_type tags last)) ++ tagged tags last payload

-- what a sender has to keep to
pub record IsSent (addresses : List ℕ) (tags : List Tag) (datagram : List ℕ) : Type 0 where
  pub two_addresses : length addresses ≡ 12
  pub are_tags : All IsTag tags
  pub short : length datagram ≤ datagram_limit

-- PTP over Ethernet is found
abbrev pub FindsOverEthernet : Type 0
FindsOverEthernet =
    (addresses : List ℕ) (tags : List Tag) (datagram : List ℕ) → IsSent addresses tags datagram
    → IsFound 1 (ethernet_octets addresses tags 0x88f7 datagram) (Datagram datagram)

-- PTP over UDP and IPv4 is found, whatever pads the frame
abbrev pub FindsOverIpv4 : Type 0
FindsOverIpv4 =
    (addresses : List ℕ) (tags : List Tag) (header : Ipv4Header) (udp : UdpHeader) (datagram padding : List ℕ)
    → IsSent addresses tags datagram → IsIpv4Whole header → IsPtpPort udp.destination
    → IsFound 1 (ethernet_octets addresses tags 0x0800 (ipv4_octets header (udp_octets udp datagram) ++ padding))
    (Datagram datagram)

-- PTP over UDP and IPv6 is found, behind any extension headers and whatever pads the frame
abbrev pub FindsOverIpv6 : Type 0
FindsOverIpv6 =
    (addresses : List ℕ) (tags : List Tag) (header : Ipv6Header) (extensions : List Extension) (udp : UdpHeader)
    (datagram padding : List ℕ) → IsSent addresses tags datagram → IsIpv6Header header → All IsExtension extensions
    → IsPtpPort udp.destination
    → IsFound 1 (ethernet_octets addresses tags 0x86dd (ipv6_octets header extensions (udp_octets udp datagram) ++ padding))
    (Datagram datagram)
