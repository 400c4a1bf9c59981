-- Captures as they are written, octet for octet.
use Rattle.std.specs.Prelude.{◌≡◌, ◌≢◌, ℕ, ◌+◌, ◌-◌, ◌*◌, ◌/◌, ◌%◌, ◌^◌, ◌<◌, ◌≤◌, List, [], ◌∷◌, ◌++◌, All, length, take, map}
use Rattle.std.specs.Prelude.{reverse, replicate, slice_get, Option, Some, None, IfSome, true, ⊤, if◌then◌else◌}
use Rattle.std.specs.List.{flat_map}
use Rattle.std.specs.Int.{w16, w32, to_be_bytes, to_le_bytes}
use Rattle.ptp_units.specs.Moment.{Stamp}
use Rattle.capture_file.specs.declared.fault.CaptureFault.{CaptureFault}
use Rattle.capture_file.specs.declared.order.ByteOrder.{ByteOrder}
use Rattle.capture_file.specs.declared.order.ByteOrder.TheVariants.{Big, Little}
use Rattle.capture_file.specs.declared.pcap.FractionUnit.{FractionUnit}
use Rattle.capture_file.specs.declared.pcap.FractionUnit.TheVariants.{Microseconds, Nanoseconds}
use Rattle.capture_file.specs.Name.{is_like_place}
use Rattle.capture_file.specs.Order.{AreOctets}
use Rattle.capture_file.specs.Options.{OptionOf, name_code, resolution_code, offset_code}
use Rattle.capture_file.specs.Packet.{PacketOf, Captured, packet_limit}
use Rattle.capture_file.specs.Parts.{Part, AreParts, form_behind, octets_of, packets_of}
use Rattle.capture_file.specs.Pcap.{PcapOf, pcap_interface}
use Rattle.capture_file.specs.Pcapng.{padded, section_type, description_type, enhanced_packet_type, is_length_of}
use Rattle.capture_file.specs.Section.{options_limit, is_other}
use Rattle.capture_file.specs.Wrong.{IsFault}

-- ---- numbers, packets, and what is read

-- a number below 2 ^ 16 in two octets
abbrev pub in_two : ByteOrder → ℕ → List ℕ
in_two Big number = to_be_bytes w16 number
in_two Little number = to_le_bytes w16 number

-- a number below 2 ^ 32 in four octets
abbrev pub in_four : ByteOrder → ℕ → List ℕ
in_four Big number = to_be_bytes w32 number
in_four Little number = to_le_bytes w32 number

-- a packet to be written: when it was captured, the octets that were captured, and of how many octets these are the first
pub record WrittenPacket : Type 0 where
  pub time : Stamp
  pub octets : List ℕ
  pub original_length : ℕ

-- The octets are read as these packets, of which the newest is in front, and as no others, and no fault is found in them.
pub record AreReadAs (octets : List ℕ) (packets : List PacketOf) : Type 0 where
  pub are_octets : AreOctets octets
  pub parts : List Part
  pub some : parts ≢ []
  pub are : AreParts parts
  pub all : octets ≡ octets_of parts
  pub packets_are : packets_of parts ≡ packets
  pub only : (others : List Part) → AreParts others → octets ≡ octets_of others → packets_of others ≡ packets
  pub no_fault : (before : List Part) (rest : List ℕ) (fault : CaptureFault) (place : ℕ) → AreParts before
      → octets ≡ octets_of before ++ rest → IsFault (form_behind before) rest fault place → ⊥

-- ---- pcap

-- the magic that tells a unit
abbrev pub magic_of : FractionUnit → ℕ
magic_of Microseconds = 0xa1b2c3d4
magic_of Nanoseconds = 0xa1b23c4d

-- how many nanoseconds a unit is
abbrev pub unit_size : FractionUnit → ℕ
unit_size Microseconds = 1000
unit_size Nanoseconds = 1

-- the numbers in the head of a pcap that nobody looks at: two that are reserved, the most octets that were captured of a
-- packet, and what stands above the link type
pub record PcapIgnored : Type 0 where
  pub first_reserved : ℕ
  pub second_reserved : ℕ
  pub snap_length : ℕ
  pub above_link : ℕ

-- a head: a magic, version 2.4, and five numbers, of which the last two are in one
abbrev pub pcap_head_octets : PcapOf → PcapIgnored → List ℕ
pcap_head_octets pcap ignored =
    in_four pcap.order (magic_of pcap.unit) ++ in_two pcap.order 2 ++ in_two pcap.order 4
    ++ in_four pcap.order ignored.first_reserved ++ in_four pcap.order ignored.second_reserved
    ++ in_four pcap.order ignored.snap_length ++ in_four pcap.order (ignored.above_link * 2 ^ 16 + pcap.link)

-- a packet: seconds, their fraction, how many octets were captured, how many it had, and those that were captured
abbrev pub pcap_packet_octets : PcapOf → WrittenPacket → List ℕ
pcap_packet_octets pcap packet =
    in_four pcap.order packet.time.seconds ++ in_four pcap.order (packet.time.nanos / unit_size pcap.unit)
    ++ in_four pcap.order (length packet.octets) ++ in_four pcap.order packet.original_length ++ packet.octets

-- a head, and packets in order
abbrev pub pcap_octets : PcapOf → PcapIgnored → List WrittenPacket → List ℕ
pcap_octets pcap ignored packets = pcap_head_octets pcap ignored ++ flat_map (pcap_packet_octets pcap) packets

-- the numbers of a head fit
pub record FitsPcapHead (pcap : PcapOf) (ignored : PcapIgnored) : Type 0 where
  pub link : pcap.link < 2 ^ 16
  pub first_reserved : ignored.first_reserved < 2 ^ 32
  pub second_reserved : ignored.second_reserved < 2 ^ 32
  pub snap_length : ignored.snap_length < 2 ^ 32
  pub above_link : ignored.above_link < 2 ^ 16

-- the numbers of a packet fit, and its time is a whole number of units
pub record FitsPcap (unit : FractionUnit) (packet : WrittenPacket) : Type 0 where
  pub seconds : packet.time.seconds < 2 ^ 32
  pub nanos : packet.time.nanos < 10 ^ 9
  pub whole : packet.time.nanos % unit_size unit ≡ 0
  pub octets : AreOctets packet.octets
  pub captured_length : length packet.octets < 2 ^ 32
  pub original_length : packet.original_length < 2 ^ 32

-- a packet as it is read
abbrev pub pcap_packet : PcapOf → WrittenPacket → PacketOf
pcap_packet pcap packet = Captured pcap_interface packet.time pcap.link (take packet_limit packet.octets)

-- whatever is written as pcap is read
abbrev pub PcapIsRead : Type 0
PcapIsRead =
    (pcap : PcapOf) (ignored : PcapIgnored) (packets : List WrittenPacket) → FitsPcapHead pcap ignored
    → All (FitsPcap pcap.unit) packets
    → AreReadAs (pcap_octets pcap ignored packets) (reverse (map (pcap_packet pcap) packets))

-- ---- pcapng

-- zeros behind so many octets, up to a multiple of four
abbrev pub padding : ℕ → List ℕ
padding size = replicate (padded size - size) 0

-- a block: its type, its total length, its body, and its total length again
abbrev pub block_octets : ByteOrder → (kind : ℕ) → List ℕ → List ℕ
block_octets order kind body =
    in_four order kind ++ in_four order (12 + length body) ++ body ++ in_four order (12 + length body)

-- an option: its code, the length of its value, the value, and padding
abbrev pub option_octets : ByteOrder → OptionOf → List ℕ
option_octets order option =
    in_two order option.code ++ in_two order (length option.value) ++ option.value ++ padding (length option.value)

-- options in order, and their end where there are any
abbrev pub options_octets : ByteOrder → List OptionOf → List ℕ
options_octets order [] = []
options_octets order (option ∷ options) =
    flat_map (option_octets order) (option ∷ options) ++ (in_two order 0 ++ in_two order 0)

-- a section header: the magic, version 1.0, no length of the section, and options
abbrev pub section_header_octets : ByteOrder → List OptionOf → List ℕ
section_header_octets order options =
    block_octets order section_type
    (in_four order 0x1a2b3c4d ++ in_two order 1 ++ in_two order 0 ++ in_four order 0xffffffff ++ in_four order 0xffffffff
    ++ options_octets order options)

-- an interface to be written: its link type, the most octets that were captured of a packet, its name if it has one, the
-- unit of its times if it tells one, and other options
pub record WrittenInterface : Type 0 where
  pub link : ℕ
  pub snap_length : ℕ
  pub name : Option (List ℕ)
  pub told : Option FractionUnit
  pub others : List OptionOf

-- times are in microseconds where no unit is told
abbrev pub times_in : Option FractionUnit → FractionUnit
times_in None = Microseconds
times_in (Some unit) = unit

-- how many decimals of a second a unit has
abbrev pub decimals_of : FractionUnit → ℕ
decimals_of Microseconds = 6
decimals_of Nanoseconds = 9

-- if_name, where there is a name
abbrev pub name_options : Option (List ℕ) → List OptionOf
name_options None = []
name_options (Some name) = record { code = name_code; value = name } ∷ []

-- if_tsresol, where a unit is told
abbrev pub unit_options : Option FractionUnit → List OptionOf
unit_options None = []
unit_options (Some unit) = record { code = resolution_code; value = decimals_of unit ∷ [] } ∷ []

-- all its options, in order
abbrev pub interface_options : WrittenInterface → List OptionOf
interface_options interface = name_options interface.name ++ unit_options interface.told ++ interface.others

-- an interface description: the link type, two octets that are reserved, the most octets of a packet, and options
abbrev pub description_octets : ByteOrder → WrittenInterface → List ℕ
description_octets order interface =
    block_octets order description_type
    (in_two order interface.link ++ in_two order 0 ++ in_four order interface.snap_length
    ++ options_octets order (interface_options interface))

-- a packet at an interface, the place of this among those of its section, from 0, and options
pub record PacketAt : Type 0 where
  pub place : ℕ
  pub interface : WrittenInterface
  pub packet : WrittenPacket
  pub options : List OptionOf

-- the time of a packet, in this unit
abbrev pub ticks_of : FractionUnit → WrittenPacket → ℕ
ticks_of unit packet = packet.time.seconds * 10 ^ decimals_of unit + packet.time.nanos / unit_size unit

-- an enhanced packet: the place of its interface, the two halves of its time, how many octets were captured, how many it
-- had, those that were captured, padding, and options
abbrev pub enhanced_octets : ByteOrder → (place ticks : ℕ) → WrittenPacket → List OptionOf → List ℕ
enhanced_octets order place ticks packet options =
    block_octets order enhanced_packet_type
    (in_four order place ++ in_four order (ticks / 2 ^ 32) ++ in_four order (ticks % 2 ^ 32)
    ++ in_four order (length packet.octets) ++ in_four order packet.original_length ++ packet.octets
    ++ (padding (length packet.octets) ++ options_octets order options))

-- a block to be written behind a section header: an interface, a packet at one that was described before, or one that is
-- passed over
pub data WrittenBlock : Type 0 where
  Describes : (interface : WrittenInterface) → WrittenBlock
  Captures : (at : PacketAt) → WrittenBlock
  PassedOver : (kind : ℕ) → (body : List ℕ) → WrittenBlock

-- a packet's time is in the unit of its interface
abbrev pub written_octets : ByteOrder → WrittenBlock → List ℕ
written_octets order (Describes interface) = description_octets order interface
written_octets order (Captures at) =
    enhanced_octets order at.place (ticks_of (times_in at.interface.told) at.packet) at.packet at.options
written_octets order (PassedOver kind body) = block_octets order kind body

-- a section to be written: the order of its numbers, options, and blocks
pub record WrittenSection : Type 0 where
  pub order : ByteOrder
  pub options : List OptionOf
  pub blocks : List WrittenBlock

-- a header, and the blocks in order
abbrev pub section_octets : WrittenSection → List ℕ
section_octets section =
    section_header_octets section.order section.options ++ flat_map (written_octets section.order) section.blocks

-- sections in order
abbrev pub pcapng_octets : List WrittenSection → List ℕ
pcapng_octets sections = flat_map section_octets sections

-- the packets among blocks, in order
abbrev pub packets_among : List WrittenBlock → List PacketAt
packets_among [] = []
packets_among (Describes interface ∷ blocks) = packets_among blocks
packets_among (Captures at ∷ blocks) = at ∷ packets_among blocks
packets_among (PassedOver kind body ∷ blocks) = packets_among blocks

-- an option has a code that isn't 0, and its numbers fit
pub record FitsOption (option : OptionOf) : Type 0 where
  pub code : option.code < 2 ^ 16
  pub some : option.code ≢ 0
  pub octets : AreOctets option.value
  pub size : length option.value < 2 ^ 16

-- an option tells neither a name nor how times are to be read
abbrev pub TellsOther : OptionOf → Type 0
TellsOther option = (option.code ≢ name_code) × (option.code ≢ resolution_code) × (option.code ≢ offset_code)

-- a name has 1 to 65,535 octets
pub record IsName (name : List ℕ) : Type 0 where
  pub some : name ≢ []
  pub octets : AreOctets name
  pub size : length name < 2 ^ 16

-- the numbers of an interface fit, and so do its name and its options
pub record FitsInterface (order : ByteOrder) (interface : WrittenInterface) : Type 0 where
  pub link : interface.link < 2 ^ 16
  pub snap_length : interface.snap_length < 2 ^ 32
  pub name : IfSome interface.name IsName
  pub others : All FitsOption interface.others
  pub tell_other : All TellsOther interface.others
  pub size : length (options_octets order (interface_options interface)) ≤ options_limit

-- the numbers of a packet fit, that of its block's octets too, its time is a whole number of units, and its interface is
-- among these
pub record FitsPcapng (order : ByteOrder) (interfaces : List WrittenInterface) (at : PacketAt) : Type 0 where
  pub place : at.place < 2 ^ 32
  pub there : slice_get interfaces at.place ≡ Some at.interface
  pub time : ticks_of (times_in at.interface.told) at.packet < 2 ^ 64
  pub nanos : at.packet.time.nanos < 10 ^ 9
  pub whole : at.packet.time.nanos % unit_size (times_in at.interface.told) ≡ 0
  pub octets : AreOctets at.packet.octets
  pub original_length : at.packet.original_length < 2 ^ 32
  pub options : All FitsOption at.options
  pub size : length at.packet.octets + length (options_octets order at.options) < 2 ^ 32 - 64

-- a block of a type that is passed over, with a length that it may have
pub record FitsPassedOver (kind : ℕ) (body : List ℕ) : Type 0 where
  pub other : is_other kind ≡ true
  pub no_section : kind ≢ section_type
  pub within : kind < 2 ^ 32
  pub octets : AreOctets body
  pub size : is_length_of kind (12 + length body) ≡ true
  pub total_length : 12 + length body < 2 ^ 32

-- two interfaces don't have one name
abbrev pub HaveOtherNames : WrittenInterface → WrittenInterface → Type 0
HaveOtherNames one other = (name : List ℕ) → one.name ≡ Some name → other.name ≢ Some name

-- blocks fit behind these interfaces: no name is that of an earlier one
abbrev pub FitBehind : ByteOrder → List WrittenInterface → List WrittenBlock → Type 0
FitBehind order interfaces [] = ⊤
FitBehind order interfaces (Describes interface ∷ blocks) =
    FitsInterface order interface × All (λ earlier. HaveOtherNames earlier interface) interfaces
    × FitBehind order (interfaces ++ interface ∷ []) blocks
FitBehind order interfaces (Captures at ∷ blocks) = FitsPcapng order interfaces at × FitBehind order interfaces blocks
FitBehind order interfaces (PassedOver kind body ∷ blocks) = FitsPassedOver kind body × FitBehind order interfaces blocks

-- all of a section fits
pub record FitsSection (section : WrittenSection) : Type 0 where
  pub options : All FitsOption section.options
  pub size : length (options_octets section.order section.options) < 2 ^ 32 - 64
  pub blocks : FitBehind section.order [] section.blocks

-- the name of its own that an interface has where it is read: none that is as that of a place
abbrev pub read_name : Option (List ℕ) → Option (List ℕ)
read_name None = None
read_name (Some name) = if is_like_place name then None else Some name

-- a packet as it is read
abbrev pub pcapng_packet : PacketAt → PacketOf
pcapng_packet at =
    Captured (record { place = at.place; name = read_name at.interface.name }) at.packet.time at.interface.link
    (take packet_limit at.packet.octets)

-- all packets of all sections
abbrev pub pcapng_packets : List WrittenSection → List PacketAt
pcapng_packets sections = flat_map (λ section. packets_among section.blocks) sections

-- whatever is written as pcapng is read
abbrev pub PcapngIsRead : Type 0
PcapngIsRead =
    (sections : List WrittenSection) → sections ≢ [] → All FitsSection sections
    → AreReadAs (pcapng_octets sections) (reverse (map pcapng_packet (pcapng_packets sections)))
