-- What tells a stream from others of its interface, without blanks.
use Rattle.std.specs.Prelude.{ℕ, ◌-◌, ◌/◌, ◌%◌, ◌==◌, ◌||◌, Bool, false, not, if◌then◌else◌, replicate}
use Rattle.std.specs.Prelude.{List, [], ◌∷◌, ◌++◌, length, slice_index, codes, Option, Some, None, is_some}
use Rattle.std.specs.Fmt.{decimal, digits, digit_glyph}
use Rattle.std.specs.Int.{to_be_bytes, w32, w64, w128}
use Rattle.std.specs.Net.Addr.{segments_of}
use Rattle.std.specs.Net.Text.{ipv4_text, ipv6_text}
use Rattle.capture_frame.specs.declared.route.Address.{Address}
use Rattle.capture_frame.specs.declared.route.Address.TheVariants.{Ethernet, Ipv4, Ipv6}
use Rattle.datagram_source.specs.declared.stream.Stream.{Stream}
use Rattle.datagram_source.specs.Stream.{is_same_stream, plain}

-- ---- addresses as people write them
-- an octet in two hexadecimal digits
unfoldable pub octet_text : ℕ → List ℕ
octet_text octet = digit_glyph false (octet / 16) ∷ digit_glyph false (octet % 16) ∷ []

-- the last six of eight octets, with colons between them
unfoldable pub ethernet_text : (octets : List ℕ) → List ℕ
ethernet_text octets =
    octet_text (slice_index octets 2) ++ (codes ":" ++ (octet_text (slice_index octets 3)
    ++ (codes ":" ++ (octet_text (slice_index octets 4) ++ (codes ":" ++ (octet_text (slice_index octets 5)
    ++ (codes ":" ++ (octet_text (slice_index octets 6) ++ (codes ":" ++ octet_text (slice_index octets 7))))))))))

-- of Ethernet in colons, of IP as its standards have it
unfoldable pub address_text : Address → List ℕ
address_text (Ethernet number) = ethernet_text (to_be_bytes w64 number)
address_text (Ipv4 number) = ipv4_text (to_be_bytes w32 number)
address_text (Ipv6 number) = ipv6_text (segments_of (to_be_bytes w128 number))

-- ---- streams
-- three hexadecimal digits at least
abbrev pub sdo_text : ℕ → List ℕ
sdo_text sdo = codes "0x" ++ replicate (3 - length (digits 16 false sdo)) 48 ++ digits 16 false sdo

-- a comma behind what stands before
abbrev pub comma : (is_behind : Bool) → List ℕ
comma is_behind = if is_behind then codes "," else []

-- sdoId, where it isn't 0
abbrev pub sdo_part : ℕ → List ℕ
sdo_part sdo = if sdo == 0 then [] else codes "sdo=" ++ sdo_text sdo

abbrev pub vlan_part : (is_behind : Bool) → (vlan : Option ℕ) → List ℕ
vlan_part is_behind None = []
vlan_part is_behind (Some vlan) = comma is_behind ++ codes "vlan=" ++ decimal vlan

abbrev pub slave_part : (is_behind : Bool) → (slave : Option Address) → List ℕ
slave_part is_behind None = []
slave_part is_behind (Some slave) = comma is_behind ++ codes "unicast=" ++ address_text slave

-- the parts that a stream has, with commas between them; a dash for sdoId 0 in no VLAN by multicast
abbrev pub stream_text : Stream → List ℕ
stream_text s =
    if is_same_stream s plain then codes "-"
    else sdo_part s.sdo ++ vlan_part (not (s.sdo == 0)) s.vlan ++ slave_part (not (s.sdo == 0) || is_some s.vlan) s.slave
