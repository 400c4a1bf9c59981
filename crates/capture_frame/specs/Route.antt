-- By which way a packet came, as far as its headers tell.
use Rattle.std.specs.Prelude.{ℕ, zero, suc, ◌-◌, ◌*◌, ◌/◌, ◌%◌, ◌^◌, nat_lt, ◌==◌, Bool, List, drop}
use Rattle.std.specs.Prelude.{slice_index, if◌then◌else◌, Option, Some, None}
use Rattle.std.specs.Option.{option_map_or}
use Rattle.capture_frame.specs.declared.link_type.LinkType.{LinkType}
use Rattle.capture_frame.specs.declared.link_type.LinkType.TheVariants.{Null, Ethernet, Raw, Loop, Cooked, Ipv4, Ipv6, Cooked2}
use Rattle.capture_frame.specs.declared.route.Address.{Address}
use Rattle.capture_frame.specs.declared.route.Address.TheVariants as addresses
use Rattle.capture_frame.specs.declared.route.Route.{Route}
use Rattle.capture_frame.specs.Link.{link_numbered}
use Rattle.capture_frame.specs.Octets.{two_octets, four_octets, six_octets, sixteen_octets}
use Rattle.capture_frame.specs.Tags.{tag_size}

-- One interface alone has the address: of Ethernet the last bit of its first octet is 0 (IEEE 802, 8.2), of IPv4 it is below
-- 224.0.0.0 (RFC 5771), of IPv6 it is below ff00:: (RFC 4291, 2.7).
abbrev pub is_unicast : Address → Bool
is_unicast (addresses.Ethernet number) = number / 2 ^ 40 % 2 == 0
is_unicast (addresses.Ipv4 number) = nat_lt number (224 * 2 ^ 24)
is_unicast (addresses.Ipv6 number) = nat_lt number (255 * 2 ^ 120)

-- nothing is told
abbrev pub nowhere : Route
nowhere = record { vlan = None; source = None; destination = None }

-- the addresses in a header of Ethernet (IEEE 802.3, 3.2)
abbrev pub ethernet_route : List ℕ → Route
ethernet_route octets = record {
  vlan = None;
  source = Some (addresses.Ethernet (six_octets octets 6));
  destination = Some (addresses.Ethernet (six_octets octets 0));
}

-- those in a header of IPv4 (RFC 791), in the same VLAN
abbrev pub ipv4_route : List ℕ → Route → Route
ipv4_route octets route = record {
  vlan = route.vlan;
  source = Some (addresses.Ipv4 (four_octets octets 12));
  destination = Some (addresses.Ipv4 (four_octets octets 16));
}

-- those in a header of IPv6 (RFC 8200, 3)
abbrev pub ipv6_route : List ℕ → Route → Route
ipv6_route octets route = record {
  vlan = route.vlan;
  source = Some (addresses.Ipv6 (sixteen_octets octets 8));
  destination = Some (addresses.Ipv6 (sixteen_octets octets 24));
}

-- those of a packet of IP, by its version
abbrev pub ip_route : List ℕ → Route → Route
ip_route octets route =
    if slice_index octets 0 / 16 == 4 then ipv4_route octets route else ipv6_route octets route

-- those of what an EtherType says
abbrev pub behind_type : (kind : ℕ) → List ℕ → Route → Route
behind_type kind octets route =
    if kind == 0x0800 then ipv4_route octets route
    else if kind == 0x86dd then ipv6_route octets route
    else route

-- the VLAN of a tag, where it names one: its last 12 bits, of which 0 says that it has a priority alone (IEEE 802.1Q, 9.6)
abbrev pub vlan_in : (tag : List ℕ) → (before : Option ℕ) → Option ℕ
vlan_in tag before = if two_octets tag 0 % 4096 == 0 then before else Some (two_octets tag 0 % 4096)

-- what a tag of this size adds
abbrev pub with_tag : (size : ℕ) → (tag : List ℕ) → Route → Route
with_tag size tag route = if size == 4 then record route { vlan = vlan_in tag route.vlan } else route

-- what so many tags at the most and what is behind them tell
abbrev pub behind_tags : (most : ℕ) → (kind : ℕ) → List ℕ → Route → Route
behind_tags zero kind octets route = behind_type kind octets route
behind_tags (suc most) kind octets route =
    option_map_or
    (λ size. behind_tags most (two_octets octets (size - 2)) (drop size octets) (with_tag size octets route))
    (tag_size kind octets)
    (behind_type kind octets route)

-- what tags, eight at the most, and what is behind them tell
unfoldable pub frame_route : (kind : ℕ) → List ℕ → Route → Route
frame_route kind octets route = behind_tags 8 kind octets route

-- the way of a packet of this link type, by its octets
abbrev pub route_behind : Option LinkType → List ℕ → Route
route_behind None octets = nowhere
route_behind (Some Null) octets = ip_route (drop 4 octets) nowhere
route_behind (Some Loop) octets = ip_route (drop 4 octets) nowhere
route_behind (Some Raw) octets = ip_route octets nowhere
route_behind (Some Ipv4) octets = ipv4_route octets nowhere
route_behind (Some Ipv6) octets = ipv6_route octets nowhere
route_behind (Some Ethernet) octets = frame_route (two_octets octets 12) (drop 14 octets) (ethernet_route octets)
route_behind (Some Cooked) octets = frame_route (two_octets octets 14) (drop 16 octets) nowhere
route_behind (Some Cooked2) octets = frame_route (two_octets octets 0) (drop 20 octets) nowhere

-- the way of a packet, by the number of its link type
abbrev pub route_in : ℕ → List ℕ → Route
route_in link octets = route_behind (link_numbered link) octets
