-- The link types of captures (LINKTYPE_ numbers of tcpdump.org), and what a packet of each carries.
use Rattle.std.specs.Prelude.{◌≡◌, ℕ, ◌⊎◌, ◌==◌, List, [], ◌∷◌, ◌++◌, length, if◌then◌else◌, Option, Some, None}
use Rattle.capture_frame.specs.declared.link_type.LinkType.{LinkType}
use Rattle.capture_frame.specs.declared.link_type.LinkType.TheVariants.{Null, Ethernet, Raw, Loop, Cooked, Ipv4, Ipv6, Cooked2}
use Rattle.capture_frame.specs.Ipv4.{IsIpv4}
use Rattle.capture_frame.specs.Ipv6.{IsIpv6}
use Rattle.capture_frame.specs.Octets.{two_octets}
use Rattle.capture_frame.specs.Payload.{Payload}
use Rattle.capture_frame.specs.Tags.{IsTagged}

-- the link type with this number
abbrev pub link_numbered : ℕ → Option LinkType
link_numbered number =
    if number == 0 then Some Null
    else if number == 1 then Some Ethernet
    else if number == 101 then Some Raw
    else if number == 108 then Some Loop
    else if number == 113 then Some Cooked
    else if number == 228 then Some Ipv4
    else if number == 229 then Some Ipv6
    else if number == 276 then Some Cooked2
    else None

-- the octets are a header of `count` octets, whose EtherType stands at octet `place`, and what carries this
pub record IsFrame (count place : ℕ) (octets : List ℕ) (payload : Payload) : Type 0 where
  pub header : List ℕ
  pub behind : List ℕ
  pub parts : octets ≡ header ++ behind
  pub size : length header ≡ count
  pub carries : IsTagged (two_octets header place) behind payload

-- a packet of a family of addresses: of IPv4 (2), or of IPv6 in NetBSD and OpenBSD (24), FreeBSD (28) and macOS (30)
abbrev pub IsOfFamily : ℕ → List ℕ → Payload → Type 0
IsOfFamily family octets payload =
    ((family ≡ 2) × IsIpv4 octets payload)
    ⊎ (((family ≡ 24) ⊎ ((family ≡ 28) ⊎ (family ≡ 30))) × IsIpv6 octets payload)

-- the octets are a family in four octets, the most significant first, and a packet of it
pub record IsBigEndian (octets : List ℕ) (payload : Payload) : Type 0 where
  pub family : ℕ
  pub behind : List ℕ
  pub parts : octets ≡ (0 ∷ 0 ∷ 0 ∷ family ∷ []) ++ behind
  pub carries : IsOfFamily family behind payload

-- the same with the least significant octet first
pub record IsLittleEndian (octets : List ℕ) (payload : Payload) : Type 0 where
  pub family : ℕ
  pub behind : List ℕ
  pub parts : octets ≡ (family ∷ 0 ∷ 0 ∷ 0 ∷ []) ++ behind
  pub carries : IsOfFamily family behind payload

-- the octets of a packet of this link type carry this: Ethernet has an EtherType behind two addresses of six octets, Linux
-- cooked capture in the last two of 16 octets, or in the first two of 20
abbrev pub Carries : LinkType → List ℕ → Payload → Type 0
Carries Ethernet = IsFrame 14 12
Carries Cooked = IsFrame 16 14
Carries Cooked2 = IsFrame 20 0
Carries Raw = λ octets payload. IsIpv4 octets payload ⊎ IsIpv6 octets payload
Carries Ipv4 = IsIpv4
Carries Ipv6 = IsIpv6
Carries Null = λ octets payload. IsBigEndian octets payload ⊎ IsLittleEndian octets payload
Carries Loop = IsBigEndian
