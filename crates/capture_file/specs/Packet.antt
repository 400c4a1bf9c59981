-- The packets of a capture.
use Rattle.std.specs.Prelude.{ℕ, List, take, Option, Some, None, option_map}
use Rattle.ptp_units.specs.Moment.{Stamp}
use Rattle.capture_file.specs.declared.packet.Interface.{Interface}
use Rattle.capture_file.specs.declared.packet.Packet.{Packet}
use Rattle.capture_file.specs.declared.packet.Packet.TheVariants as packets

-- an interface in its section: its place from 0, and its name where it has one of its own
pub record InterfaceOf : Type 0 where
  pub place : ℕ
  pub name : Option (List ℕ)

-- a packet: where, when and with which link type these octets were captured; or one without a time, or of a kind that has
-- none
pub data PacketOf : Type 0 where
  Captured : (interface : InterfaceOf) → (time : Stamp) → (link : ℕ) → (octets : List ℕ) → PacketOf
  Timeless : PacketOf
  Simple : PacketOf

-- the most octets of a packet that are looked at
abbrev pub packet_limit : ℕ
packet_limit = 65536

-- a packet of these octets, where its time is one
abbrev pub packet_at : Option Stamp → InterfaceOf → (link : ℕ) → List ℕ → PacketOf
packet_at None interface link octets = Timeless
packet_at (Some time) interface link octets = Captured interface time link (take packet_limit octets)

-- an interface without where its name lies in memory
abbrev pub interface_of : Interface → InterfaceOf
interface_of interface = record { place = interface.place; name = option_map (λ name. name.now) interface.name }

-- a packet without where its octets lie in memory
abbrev pub packet_of : Packet → PacketOf
packet_of (packets.Captured p) = Captured (interface_of p.interface) p.time p.link p.octets.now
packet_of packets.Timeless = Timeless
packet_of packets.Simple = Simple
