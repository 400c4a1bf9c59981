-- What reading the next part of a capture answers.
use Rattle.std.specs.Prelude.{◌≡◌, ◌≢◌, ℕ, ◌+◌, ◌-◌, ◌<◌, ◌≤◌, List, [], length, Bool, true, false, Option, Some, None, Result, Ok, Err, option_map}
use Rattle.std.specs.Option.{ForSome}
use Rattle.std.specs.Io.KnownBytes.{Consumes, IsAtEnd}
use Rattle.text_lines.specs.declared.counted.Counted.{Counted}
use Rattle.text_lines.specs.Counted.{HasFailed, HasNotFailed}
use Rattle.capture_file.specs.declared.fault.CaptureFault.{CaptureFault}
use Rattle.capture_file.specs.declared.fault.CaptureFault.TheVariants.{Length, CutOff}
use Rattle.capture_file.specs.declared.packet.Packet.{Packet}
use Rattle.capture_file.specs.declared.part.Part.{Part}
use Rattle.capture_file.specs.declared.part.PartStop.{PartStop}
use Rattle.capture_file.specs.declared.part.PartStop.TheVariants.{Read, Memory, Fault}
use Rattle.capture_file.specs.declared.pcap.PcapHead.{PcapHead}
use Rattle.capture_file.specs.declared.reader.Form as reader
use Rattle.capture_file.specs.declared.reader.Magic.{Magic}
use Rattle.capture_file.specs.declared.reader.Magic.TheVariants as magics
use Rattle.capture_file.specs.Pcapng.{BeginsSection, IsSection, is_length_of}
use Rattle.capture_file.specs.Section.{SectionOf}
use Rattle.capture_file.specs.Inner.Section.{section_in}
use Rattle.capture_file.specs.declared.reader.Form.TheVariants as readers
use Rattle.capture_file.specs.Packet.{PacketOf, packet_of}
use Rattle.capture_file.specs.Order.{number32}
use Rattle.capture_file.specs.declared.order.ByteOrder.{ByteOrder}
use Rattle.capture_file.specs.Pcap.{PcapOf, unit_of, IsPcapHead}
use Rattle.capture_file.specs.Parts.{Form, Start, Pcap, Section, IsPart}
use Rattle.capture_file.specs.Wrong.{IsFault, IsSectionFault, IsBlockFault}
use Rattle.capture_file.specs.Inner.Octets.{Fills}

-- the packet that a part is, if it is one
abbrev pub packet_in : Part → Option PacketOf
packet_in part = option_map packet_of part.packet

-- what a head tells
abbrev pub pcap_of : PcapHead → PcapOf
pcap_of head = record { order = head.order; unit = head.unit; link = head.link }

-- what stands before the next part
abbrev pub form_of : reader.Form → Form
form_of readers.Start = Start
form_of (readers.Pcap head) = Pcap (pcap_of head)
form_of (readers.Section section) = Section (section_in section)

-- of the octets that are kept those of the next part: a capture may have begun before
abbrev pub begun_with : Form → List ℕ → List ℕ
begun_with Start octets = octets
begun_with (Pcap pcap) octets = []
begun_with (Section section) octets = []

-- so many octets are there, or the part is cut off
abbrev pub Wants : {T : Type 0} → ℕ → Result T PartStop → (old new : List ℕ) → (before after : Option (List ℕ)) → Type 0
Wants size (Ok done) old new before after = Fills old new before after × (length new ≡ size)
Wants size (Err Read) old new before after = Fills old new before after
Wants size (Err Memory) old new before after = ⊥
Wants size (Err (Fault CutOff place)) old new before after =
    Fills old new before after × (length new < size) × IsAtEnd after × (place ≡ 0)
Wants size (Err (Fault fault place)) old new before after = ⊥

-- whether the reader failed
abbrev pub FailedIn : {T R : Type 0} → Result T PartStop → (old new : Counted R) → Type 0
FailedIn (Ok read) old new = HasNotFailed old new
FailedIn (Err Read) old new = HasFailed old new
FailedIn (Err Memory) old new = HasNotFailed old new
FailedIn (Err (Fault fault place)) old new = HasNotFailed old new

-- some octets were read
abbrev pub Sees : (before after : Option (List ℕ)) → Type 0
Sees before after = (seen : List ℕ) × Consumes before after seen

-- why octets aren't read, by what is wrong with those that are left and at which place
abbrev pub StopsBy : (List ℕ → CaptureFault → ℕ → Type 0) → PartStop → (before after : Option (List ℕ)) → Type 0
StopsBy Wrong Read before after = Sees before after
StopsBy Wrong Memory before after = Sees before after
StopsBy Wrong (Fault fault place) before after = Sees before after × ForSome before (λ octets. Wrong octets fault place)

-- why a part isn't read
abbrev pub StopsPart : Form → PartStop → (before after : Option (List ℕ)) → Type 0
StopsPart form stop before after = StopsBy (IsFault form) stop before after

-- octets begin with this magic
abbrev pub TellsMagic : Magic → List ℕ → Type 0
TellsMagic (magics.Pcap order unit) octets = unit_of (number32 order octets 0) ≡ Some unit
TellsMagic magics.Section octets = BeginsSection octets

-- a magic was read
abbrev pub ReadsMagic : Result Magic PartStop → (front : List ℕ) → (before after : Option (List ℕ)) → Type 0
ReadsMagic (Ok magic) front before after =
    Consumes before after front × (length front ≡ 4) × TellsMagic magic front
ReadsMagic (Err stop) front before after = StopsPart Start stop before after

-- what stands in front of the octets of a packet was read, or the end was there
abbrev pub ReadsPacketHead : Result Bool PartStop → (front : List ℕ) → (before after : Option (List ℕ)) → Type 0
ReadsPacketHead (Ok true) front before after = Consumes before after front × (length front ≡ 16)
ReadsPacketHead (Ok false) front before after = Consumes before after [] × IsAtEnd after
ReadsPacketHead (Err stop) front before after = (pcap : PcapOf) → StopsPart (Pcap pcap) stop before after

-- so many octets were passed over
abbrev pub PassesRest : {T : Type 0} → ℕ → Result T PartStop → (before after : Option (List ℕ)) → Type 0
PassesRest count (Ok done) before after = (passed : List ℕ) × Consumes before after passed × (length passed ≡ count)
PassesRest count (Err Read) before after = (passed : List ℕ) × Consumes before after passed
PassesRest count (Err Memory) before after = ⊥
PassesRest count (Err (Fault CutOff place)) before after =
    (passed : List ℕ) × Consumes before after passed × (length passed < count) × IsAtEnd after × (place ≡ 0)
PassesRest count (Err (Fault fault place)) before after = ⊥

-- the head of a pcap was read
abbrev pub ReadsHead : Result PcapHead PartStop → (before after : Option (List ℕ)) → Type 0
ReadsHead (Ok head) before after = (octets : List ℕ) × Consumes before after octets × IsPcapHead (pcap_of head) octets
ReadsHead (Err stop) before after = StopsPart Start stop before after

-- a part was read
abbrev pub IsRead : (old new : Form) → Part → (before after : Option (List ℕ)) → Type 0
IsRead old new part before after =
    (octets : List ℕ) × Consumes before after octets × (length octets ≡ part.size)
    × IsPart old octets (packet_in part) new

-- the end of the input, behind a part
abbrev pub IsEnd : (old new : Form) → (before after : Option (List ℕ)) → Type 0
IsEnd old new before after = (old ≢ Start) × (new ≡ old) × Consumes before after [] × IsAtEnd after

-- the next part was read, or the end was there
abbrev pub ReadsPart : (old new : Form) → Result (Option Part) PartStop → (before after : Option (List ℕ)) → Type 0
ReadsPart old new (Ok None) before after = IsEnd old new before after
ReadsPart old new (Ok (Some part)) before after = IsRead old new part before after
ReadsPart old new (Err stop) before after = StopsPart old stop before after

-- ---- blocks of pcapng

-- what is left of a block of so many octets was passed over, and its total length stood at its end, too
abbrev pub Closes : {T : Type 0} → ByteOrder → (total seen : ℕ) → Result T PartStop → (before after : Option (List ℕ)) → Type 0
Closes order total seen (Ok done) before after =
    (rest : List ℕ) × Consumes before after rest × (4 ≤ length rest) × (seen + length rest ≡ total)
    × (number32 order rest (length rest - 4) ≡ total)
Closes order total seen (Err Read) before after = Sees before after
Closes order total seen (Err Memory) before after = ⊥
Closes order total seen (Err (Fault CutOff place)) before after =
    (rest : List ℕ) × Consumes before after rest × (seen + length rest < total) × IsAtEnd after × (place ≡ 0)
Closes order total seen (Err (Fault Length place)) before after =
    (rest : List ℕ) × Consumes before after rest × (4 ≤ length rest) × (seen + length rest ≡ total)
    × (number32 order rest (length rest - 4) ≢ total) × (place + 4 ≡ total)
Closes order total seen (Err (Fault fault place)) before after = ⊥

-- a section header of so many octets was read
abbrev pub ReadsSection : Result (ByteOrder × ℕ) PartStop → (before after : Option (List ℕ)) → Type 0
ReadsSection (Ok header) before after =
    (octets : List ℕ) × Consumes before after octets × IsSection header.0 octets × (length octets ≡ header.1)
ReadsSection (Err stop) before after = StopsBy IsSectionFault stop before after

-- the first eight octets of a block that is no section header
pub record IsBlockHead (order : ByteOrder) (kind total : ℕ) (front : List ℕ) : Type 0 where
  pub length_is : length front ≡ 8
  pub kind_is : number32 order front 0 ≡ kind
  pub total_is : number32 order front 4 ≡ total
  pub size : is_length_of kind total ≡ true
  pub other : BeginsSection front → ⊥

-- a block of so many octets was read
abbrev pub ReadsBlock : (old new : SectionOf) → (total : ℕ) → Result (Option Packet) PartStop → (before after : Option (List ℕ)) → Type 0
ReadsBlock old new total (Ok packet) before after =
    (octets : List ℕ) × Consumes before after octets × (length octets ≡ total)
    × IsPart (Section old) octets (option_map packet_of packet) (Section new)
ReadsBlock old new total (Err stop) before after = StopsBy (IsBlockFault old) stop before after

-- the type and the total length of a block were read, or the end was there
abbrev pub ReadsBlockHead : Result Bool PartStop → (front : List ℕ) → (before after : Option (List ℕ)) → Type 0
ReadsBlockHead (Ok true) front before after = Consumes before after front × (length front ≡ 8)
ReadsBlockHead (Ok false) front before after = Consumes before after [] × IsAtEnd after
ReadsBlockHead (Err stop) front before after = (section : SectionOf) → StopsPart (Section section) stop before after
