-- IPv4 (RFC 791), and what it carries of PTP (IEEE 1588-2019, annex C).
use Rattle.std.specs.Prelude.{◌≡◌, ℕ, ◌*◌, ◌/◌, ◌%◌, ◌-◌, ◌≤◌, ◌⊎◌, ◌==◌, ◌&&◌, Bool, true, false}
use Rattle.std.specs.Prelude.{List, ◌++◌, length, take, slice_index, if◌then◌else◌}
use Rattle.capture_frame.specs.Octets.{two_octets}
use Rattle.capture_frame.specs.Payload.{Payload, Whole, Part}
use Rattle.capture_frame.specs.Udp.{udp, IsUdp}

-- a header, options included, of a packet of UDP; a total length of 0, which a sender has that leaves cutting to its
-- network card, tells nothing
pub record IsIpv4Header (header : List ℕ) : Type 0 where
  pub version : slice_index header 0 / 16 ≡ 4
  pub size : length header ≡ 4 * (slice_index header 0 % 16)
  pub least : 20 ≤ length header
  pub total_length : (two_octets header 2 ≡ 0) ⊎ (length header ≤ two_octets header 2)
  pub protocol : slice_index header 9 ≡ udp

-- the fragment offset, in the last 13 bits, is 0, and so is the bit before it: no fragments follow
abbrev pub is_unfragmented : List ℕ → Bool
is_unfragmented header = two_octets header 6 % 8192 == 0 && two_octets header 6 / 8192 % 2 == 0

-- what is behind the header, up to the total length
abbrev pub ipv4_data : (header behind : List ℕ) → List ℕ
ipv4_data header behind =
    if two_octets header 2 == 0 then behind else take (two_octets header 2 - length header) behind

-- behind such a header stands a datagram of UDP, or a part of one
abbrev pub CarriesOverIpv4 : (header behind : List ℕ) → Payload → Type 0
CarriesOverIpv4 header behind (Whole datagram) =
    (is_unfragmented header ≡ true) × IsUdp (ipv4_data header behind) datagram
CarriesOverIpv4 header behind Part = is_unfragmented header ≡ false

-- the octets are a header and what is behind it, which carry this
pub record IsIpv4 (octets : List ℕ) (payload : Payload) : Type 0 where
  pub header : List ℕ
  pub behind : List ℕ
  pub parts : octets ≡ header ++ behind
  pub is_header : IsIpv4Header header
  pub carries : CarriesOverIpv4 header behind payload
