-- Which of the streams of an interface a datagram is of.
use Rattle.std.specs.Prelude.{ℕ, ◌+◌, ◌*◌, ◌/◌, ◌%◌, ◌==◌, ◌&&◌, ◌||◌, Bool, false, List, slice_index, if◌then◌else◌}
use Rattle.std.specs.Prelude.{Option, Some, None, is_some}
use Rattle.std.specs.Option.{option_eq}
use Rattle.capture_frame.specs.declared.route.Address.{Address}
use Rattle.capture_frame.specs.declared.route.Address.TheVariants.{Ethernet, Ipv4, Ipv6}
use Rattle.capture_frame.specs.declared.route.Route.{Route}
use Rattle.capture_frame.specs.Route.{is_unicast}
use Rattle.datagram_source.specs.declared.stream.Stream.{Stream}

-- sdoId (IEEE 1588-2019, 7.1.4): majorSdoId (13.3.2.2) and minorSdoId (13.3.2.7) of a message of version 2
abbrev pub sdo_in : List ℕ → ℕ
sdo_in octets =
    if slice_index octets 1 % 16 == 2 then 256 * (slice_index octets 0 / 16) + slice_index octets 5 else 0

-- messageType (13.3.2.3, table 36): Sync, Follow_Up and Delay_Resp go from a master to a slave, Delay_Req from a slave
abbrev pub type_in : List ℕ → ℕ
type_in octets = slice_index octets 0 % 16

abbrev pub is_to_slave : (type : ℕ) → Bool
is_to_slave type = type == 0 || (type == 8 || type == 9)

-- a Delay_Req, or the answer to one, also where it is cut short
abbrev pub is_exchange : List ℕ → Bool
is_exchange octets = type_in octets == 1 || type_in octets == 9

-- an address, where one interface alone has it
abbrev pub unicast : Option Address → Option Address
unicast None = None
unicast (Some address) = if is_unicast address then Some address else None

-- the address of the slave, where a message goes between it and its master alone
abbrev pub slave_in : Route → List ℕ → Option Address
slave_in route octets =
    if is_to_slave (type_in octets) then unicast route.destination
    else if type_in octets == 1 && is_some (unicast route.destination) then unicast route.source
    else None

-- the stream of a datagram that came by this way
abbrev pub stream_of : Route → List ℕ → Stream
stream_of route octets = record { sdo = sdo_in octets; vlan = route.vlan; slave = slave_in route octets }

-- that of messages to all slaves in its place
abbrev pub to_all : Stream → Stream
to_all stream = record stream { slave = None }

-- the one of sdoId 0 in no VLAN by multicast
abbrev pub plain : Stream
plain = record { sdo = 0; vlan = None; slave = None }

-- ---- two streams are one
abbrev pub is_same_address : (one other : Address) → Bool
is_same_address (Ethernet one) (Ethernet other) = one == other
is_same_address (Ipv4 one) (Ipv4 other) = one == other
is_same_address (Ipv6 one) (Ipv6 other) = one == other
is_same_address _ _ = false

abbrev pub is_same_stream : (one other : Stream) → Bool
is_same_stream one other =
    one.sdo == other.sdo && (option_eq ◌==◌ one.vlan other.vlan && option_eq is_same_address one.slave other.slave)
