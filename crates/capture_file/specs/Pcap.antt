-- The octets of pcap, as the file format of libpcap has them (draft-ietf-opsawg-pcap).
use Rattle.std.specs.Prelude.{◌≡◌, ℕ, ◌+◌, ◌*◌, ◌%◌, ◌^◌, ◌≤◌, nat_lt, ◌==◌, List, length, drop, if◌then◌else◌}
use Rattle.std.specs.Prelude.{Option, Some, None, Bool, true, ◌&&◌}
use Rattle.ptp_units.specs.Moment.{Stamp, stamp}
use Rattle.capture_file.specs.declared.order.ByteOrder.{ByteOrder}
use Rattle.capture_file.specs.declared.pcap.FractionUnit.{FractionUnit}
use Rattle.capture_file.specs.declared.pcap.FractionUnit.TheVariants.{Microseconds, Nanoseconds}
use Rattle.capture_file.specs.Order.{number16, number32}
use Rattle.capture_file.specs.Packet.{InterfaceOf, PacketOf, packet_at}

-- what the head of a pcap tells: the order of all numbers, in which unit fractions of a second are, and the link type
pub record PcapOf : Type 0 where
  pub order : ByteOrder
  pub unit : FractionUnit
  pub link : ℕ

-- the magics a1b2c3d4 and a1b23c4d
abbrev pub unit_of : (magic : ℕ) → Option FractionUnit
unit_of magic =
    if magic == 2712847316 then Some Microseconds
    else if magic == 2712812621 then Some Nanoseconds
    else None

-- the version is 2.4
abbrev pub is_pcap_version : ByteOrder → List ℕ → Bool
is_pcap_version order octets = number16 order octets 4 == 2 && number16 order octets 6 == 4

-- the 24 octets that a pcap begins with; what isn't named isn't looked at
pub record IsPcapHead (pcap : PcapOf) (octets : List ℕ) : Type 0 where
  pub size : length octets ≡ 24
  pub magic : unit_of (number32 pcap.order octets 0) ≡ Some pcap.unit
  pub version : is_pcap_version pcap.order octets ≡ true
  pub link_type : pcap.link ≡ number32 pcap.order octets 20 % 2 ^ 16

-- the only interface of a pcap
abbrev pub pcap_interface : InterfaceOf
pcap_interface = record { place = 0; name = None }

-- a time in seconds and a fraction of one
abbrev pub pcap_time : FractionUnit → (seconds fraction : ℕ) → Option Stamp
pcap_time Microseconds seconds fraction =
    if nat_lt fraction (10 ^ 6) then Some (stamp seconds (fraction * 1000)) else None
pcap_time Nanoseconds seconds fraction = if nat_lt fraction (10 ^ 9) then Some (stamp seconds fraction) else None

-- a packet of a pcap: 16 octets, and those that were captured
pub record IsPcapPacket (pcap : PcapOf) (octets : List ℕ) (packet : PacketOf) : Type 0 where
  pub least : 16 ≤ length octets
  pub captured_length : length octets ≡ 16 + number32 pcap.order octets 8
  pub packet_is : packet ≡ packet_at
      (pcap_time pcap.unit (number32 pcap.order octets 0) (number32 pcap.order octets 4))
      pcap_interface
      pcap.link
      (drop 16 octets)
