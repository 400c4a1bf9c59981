-- The parts of a capture: what octets are in turn.
use Rattle.std.specs.Prelude.{◌≡◌, ◌⊎◌, ℕ, List, [], ◌∷◌, ◌++◌, Option, Some, None, option_to_list, ⊤}
use Rattle.capture_file.specs.declared.order.ByteOrder.{ByteOrder}
use Rattle.capture_file.specs.Packet.{PacketOf, Simple}
use Rattle.capture_file.specs.Pcap.{PcapOf, IsPcapHead, IsPcapPacket}
use Rattle.capture_file.specs.Pcapng.{IsSection}
use Rattle.capture_file.specs.Section.{DescriptionOf, SectionOf, begun, with_interface, IsDescription, IsEnhanced, IsSimple, IsOther}

-- what stands before the next part: nothing, the head of a pcap, or a section of a pcapng
pub data Form : Type 0 where
  Start : Form
  Pcap : (pcap : PcapOf) → Form
  Section : (section : SectionOf) → Form

-- a part of a section that is a packet
abbrev pub IsSectionPacket : SectionOf → List ℕ → PacketOf → Form → Type 0
IsSectionPacket section octets packet later =
    (IsEnhanced section octets packet ⊎ (IsSimple section octets × (packet ≡ Simple))) × (later ≡ Section section)

-- a part of a section that is none: a section header, behind which interfaces are described anew, an interface
-- description, or a block that is passed over
abbrev pub IsSectionBlock : SectionOf → List ℕ → Form → Type 0
IsSectionBlock section octets later =
    ((order : ByteOrder) × IsSection order octets × (later ≡ Section (begun order)))
    ⊎ (((d : DescriptionOf) × IsDescription section octets d × (later ≡ Section (with_interface d section)))
    ⊎ (IsOther section octets × (later ≡ Section section)))

-- The octets are the next part. Behind it another form may stand.
abbrev pub IsPart : Form → List ℕ → Option PacketOf → Form → Type 0
IsPart Start octets (Some packet) later = ⊥
IsPart Start octets None Start = ⊥
IsPart Start octets None (Pcap pcap) = IsPcapHead pcap octets
IsPart Start octets None (Section section) = IsSection section.order octets × (section ≡ begun section.order)
IsPart (Pcap pcap) octets None later = ⊥
IsPart (Pcap pcap) octets (Some packet) later = (later ≡ Pcap pcap) × IsPcapPacket pcap octets packet
IsPart (Section section) octets None later = IsSectionBlock section octets later
IsPart (Section section) octets (Some packet) later = IsSectionPacket section octets packet later

-- a part of a capture: its octets, the packet that it is if it is one, and the form behind it
pub record Part : Type 0 where
  pub octets : List ℕ
  pub packet : Option PacketOf
  pub later : Form

-- Lists of parts and of packets have the newest in front.

-- the form behind these parts
abbrev pub form_behind : List Part → Form
form_behind [] = Start
form_behind (part ∷ earlier) = part.later

-- the parts stand one behind the other, from the first octet of the capture on
abbrev pub AreParts : List Part → Type 0
AreParts [] = ⊤
AreParts (part ∷ earlier) = AreParts earlier × IsPart (form_behind earlier) part.octets part.packet part.later

-- all their octets, in order
abbrev pub octets_of : List Part → List ℕ
octets_of [] = []
octets_of (part ∷ earlier) = octets_of earlier ++ part.octets

-- the packets among them
abbrev pub packets_of : List Part → List PacketOf
packets_of [] = []
packets_of (part ∷ earlier) = option_to_list part.packet ++ packets_of earlier
