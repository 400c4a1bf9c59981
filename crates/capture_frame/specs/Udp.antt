-- UDP (RFC 768).
use Rattle.std.specs.Prelude.{◌≡◌, ℕ, ◌-◌, ◌≤◌, ◌⊎◌, List, ◌++◌, length, take}
use Rattle.capture_frame.specs.Octets.{two_octets}

-- the protocol number of UDP
abbrev pub udp : ℕ
udp = 17

-- the ports of PTP's event and general messages (IEEE 1588-2019, C.2)
abbrev pub IsPtpPort : ℕ → Type 0
IsPtpPort port = (port ≡ 319) ⊎ (port ≡ 320)

-- the octets are a header for such a port and then this datagram, up to UDP's length or as far as it was captured
pub record IsUdp (octets datagram : List ℕ) : Type 0 where
  pub header : List ℕ
  pub behind : List ℕ
  pub parts : octets ≡ header ++ behind
  pub size : length header ≡ 8
  pub destination : IsPtpPort (two_octets header 2)
  pub least : 8 ≤ two_octets header 4
  pub captured : datagram ≡ take (two_octets header 4 - 8) behind
