-- What stands behind an EtherType: tags, and then PTP, IPv4 or IPv6.
use Rattle.std.specs.Prelude.{◌≡◌, ℕ, ◌-◌, ◌⊎◌, ◌==◌, ◌||◌, List, length, if◌then◌else◌, Option, Some, None}
use Rattle.capture_frame.specs.Chain.{IsChain}
use Rattle.capture_frame.specs.Ipv4.{IsIpv4}
use Rattle.capture_frame.specs.Ipv6.{IsIpv6}
use Rattle.capture_frame.specs.Octets.{two_octets}
use Rattle.capture_frame.specs.Payload.{Payload, Whole}

-- how many octets stand behind the EtherType of a tag, of which the last two are the next EtherType: of VLANs (IEEE
-- 802.1Q), of redundancy (IEEE 802.1CB) and of HSR (IEC 62439-3)
abbrev pub tag_size : ℕ → List ℕ → Option ℕ
tag_size kind tag =
    if kind == 0x8100 || kind == 0x88a8 || kind == 0x9100 then Some 4
    else if kind == 0xf1c1 || kind == 0x892f then Some 6
    else None

-- the EtherType behind a tag
abbrev pub next_type : List ℕ → ℕ
next_type tag = two_octets tag (length tag - 2)

-- what stands behind the tags carries this; PTP over Ethernet is a datagram with its padding (IEEE 1588-2019, annex E)
abbrev pub CarriesByType : ℕ → List ℕ → Payload → Type 0
CarriesByType kind octets payload =
    ((kind ≡ 0x88f7) × (payload ≡ Whole octets))
    ⊎ (((kind ≡ 0x0800) × IsIpv4 octets payload)
    ⊎ ((kind ≡ 0x86dd) × IsIpv6 octets payload))

-- what stands behind an EtherType, tags first, carries this
abbrev pub IsTagged : ℕ → List ℕ → Payload → Type 0
IsTagged = IsChain tag_size next_type CarriesByType
