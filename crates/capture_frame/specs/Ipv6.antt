-- IPv6 (RFC 8200), and what it carries of PTP (IEEE 1588-2019, annex D).
use Rattle.std.specs.Prelude.{◌≡◌, ℕ, ◌+◌, ◌*◌, ◌/◌, ◌%◌, ◌≤◌, ◌==◌, ◌&&◌, ◌||◌, Bool, false}
use Rattle.std.specs.Prelude.{List, ◌++◌, length, take, slice_index, if◌then◌else◌, Option, Some, None}
use Rattle.capture_frame.specs.Chain.{IsChain}
use Rattle.capture_frame.specs.Octets.{two_octets}
use Rattle.capture_frame.specs.Payload.{Payload, Whole, Part}
use Rattle.capture_frame.specs.Udp.{udp, IsUdp}

-- a fragment header's offset is 0, and no fragments follow (4.5)
abbrev pub is_whole : List ℕ → Bool
is_whole header = two_octets header 2 / 8 == 0 && two_octets header 2 % 2 == 0

-- the size of an extension header that is passed over: of hop-by-hop options (0), routing (43) and destination options
-- (60), and of a fragment header (44) of a whole packet (4.3 to 4.6)
abbrev pub extension_size : ℕ → List ℕ → Option ℕ
extension_size kind header =
    if kind == 0 || kind == 43 || kind == 60 then Some (8 + 8 * slice_index header 1)
    else if kind == 44 && is_whole header then Some 8
    else None

-- the number of the header behind an extension header
abbrev pub next_header : List ℕ → ℕ
next_header header = slice_index header 0

-- what stands behind the extension headers: UDP, or a fragment header of a part
abbrev pub CarriesOverIpv6 : ℕ → List ℕ → Payload → Type 0
CarriesOverIpv6 kind octets (Whole datagram) = (kind ≡ udp) × IsUdp octets datagram
CarriesOverIpv6 kind octets Part = (kind ≡ 44) × (8 ≤ length octets) × (is_whole octets ≡ false)

-- the octets are a header, and up to the payload length extension headers and what carries this
pub record IsIpv6 (octets : List ℕ) (payload : Payload) : Type 0 where
  pub header : List ℕ
  pub behind : List ℕ
  pub parts : octets ≡ header ++ behind
  pub size : length header ≡ 40
  pub version : slice_index header 0 / 16 ≡ 6
  pub carries : IsChain extension_size next_header CarriesOverIpv6
      (slice_index header 6) (take (two_octets header 4) behind) payload
