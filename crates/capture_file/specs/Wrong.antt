-- What is wrong with octets that are no part of a capture, and at which of them: the first thing that is. Places count
-- from 0, from the part's first octet.
use Rattle.std.specs.Prelude.{◌≡◌, ◌≢◌, ◌⊎◌, ℕ, ◌+◌, ◌-◌, ◌<◌, ◌≤◌, nat_lt, List, [], length, if◌then◌else◌}
use Rattle.std.specs.Prelude.{slice_get, Some, None, true, false}
use Rattle.capture_file.specs.declared.order.ByteOrder.{ByteOrder}
use Rattle.capture_file.specs.declared.order.ByteOrder.TheVariants.{Big, Little}
use Rattle.capture_file.specs.declared.fault.CaptureFault.{CaptureFault}
use Rattle.capture_file.specs.declared.fault.CaptureFault.TheVariants.{NoCapture, Version, ByteOrderMagic, Length}
use Rattle.capture_file.specs.declared.fault.CaptureFault.TheVariants.{Interface, CutOff}
use Rattle.capture_file.specs.Order.{number32}
use Rattle.capture_file.specs.Pcap.{unit_of, is_pcap_version}
use Rattle.capture_file.specs.Pcapng.{BeginsSection, section_type, description_type, enhanced_packet_type, padded, is_length_of}
use Rattle.capture_file.specs.Pcapng.{order_of_magic, is_section_version}
use Rattle.capture_file.specs.Options.{OptionOf, AreOptions, HasWrongOption}
use Rattle.capture_file.specs.Section.{DescriptionOf, SectionOf, options_there}
use Rattle.capture_file.specs.Parts.{Form, Start, Pcap, Section}

-- ---- pcap

-- the octets begin with the magic of a pcap in this order
abbrev pub IsPcapMagic : ByteOrder → List ℕ → Type 0
IsPcapMagic order octets = (4 ≤ length octets) × (unit_of (number32 order octets 0) ≢ None)

-- of the head of a pcap
abbrev pub IsPcapFault : List ℕ → CaptureFault → ℕ → Type 0
IsPcapFault octets Version place =
    (order : ByteOrder) × IsPcapMagic order octets × (8 ≤ length octets) × (is_pcap_version order octets ≡ false)
    × (place ≡ 4)
IsPcapFault octets CutOff place =
    (order : ByteOrder) × IsPcapMagic order octets × (length octets < 24)
    × (8 ≤ length octets → is_pcap_version order octets ≡ true) × (place ≡ 0)
IsPcapFault octets fault place = ⊥

-- how many octets a packet of a pcap has, as far as these tell
abbrev pub packet_length : ByteOrder → List ℕ → ℕ
packet_length order octets = if nat_lt (length octets) 16 then 16 else 16 + number32 order octets 8

-- ---- a section header of pcapng

-- the total length of a block
abbrev pub total_of : ByteOrder → List ℕ → ℕ
total_of order octets = number32 order octets 4

-- a block is there whole, and its total length at the end is another one
abbrev pub HasOtherEnd : ByteOrder → List ℕ → ℕ → Type 0
HasOtherEnd order octets place =
    (total_of order octets ≤ length octets) × (number32 order octets (total_of order octets - 4) ≢ total_of order octets)
    × (place + 4 ≡ total_of order octets)

-- the octets begin with a section header
abbrev pub IsSectionMagic : List ℕ → Type 0
IsSectionMagic octets = (4 ≤ length octets) × BeginsSection octets

-- what is there of a section header is sound, but for its end
pub record IsHeaderSoFar (order : ByteOrder) (octets : List ℕ) : Type 0 where
  pub there : 12 ≤ length octets
  pub magic : order_of_magic octets ≡ Some order
  pub size : is_length_of section_type (total_of order octets) ≡ true
  pub version : 16 ≤ length octets → is_section_version order octets ≡ true

-- of a section header
abbrev pub IsSectionFault : List ℕ → CaptureFault → ℕ → Type 0
IsSectionFault octets ByteOrderMagic place = (12 ≤ length octets) × (order_of_magic octets ≡ None) × (place ≡ 8)
IsSectionFault octets Version place =
    (order : ByteOrder) × (16 ≤ length octets) × (order_of_magic octets ≡ Some order)
    × (is_length_of section_type (total_of order octets) ≡ true) × (is_section_version order octets ≡ false)
    × (place ≡ 12)
IsSectionFault octets Length place =
    (order : ByteOrder) × (((12 ≤ length octets) × (order_of_magic octets ≡ Some order)
    × (is_length_of section_type (total_of order octets) ≡ false) × (place ≡ 4))
    ⊎ (IsHeaderSoFar order octets × HasOtherEnd order octets place))
IsSectionFault octets CutOff place =
    (place ≡ 0) × ((length octets < 12)
    ⊎ ((order : ByteOrder) × IsHeaderSoFar order octets × (length octets < total_of order octets)))
IsSectionFault octets NoCapture place = ⊥
IsSectionFault octets Interface place = ⊥

-- ---- another block of pcapng

-- the type of a block
abbrev pub kind_of : ByteOrder → List ℕ → ℕ
kind_of order octets = number32 order octets 0

-- a block of this type begins, and its total length is one of such
pub record IsBegun (order : ByteOrder) (kind : ℕ) (octets : List ℕ) : Type 0 where
  pub head : 8 ≤ length octets
  pub kind_is : kind_of order octets ≡ kind
  pub size : is_length_of kind (total_of order octets) ≡ true

-- what is there of a block that is no section header is sound, but for its end
pub record IsBlockSoFar (section : SectionOf) (octets : List ℕ) : Type 0 where
  pub kind : ℕ
  pub begun : IsBegun section.order kind octets
  pub other : BeginsSection octets → ⊥
  pub described : kind ≡ enhanced_packet_type → 12 ≤ length octets
      → (interface : DescriptionOf) × (slice_get section.interfaces (number32 section.order octets 8) ≡ Some interface)
  pub fits : kind ≡ enhanced_packet_type → 24 ≤ length octets
      → 32 + padded (number32 section.order octets 20) ≤ total_of section.order octets
  pub options : kind ≡ description_type → 16 ≤ length octets → (options : List OptionOf) × AreOptions section.order
      (total_of section.order octets - 20) options (options_there (total_of section.order octets) octets)

-- a length is wrong within a block
abbrev pub HasWrongLength : SectionOf → List ℕ → ℕ → Type 0
HasWrongLength section octets place =
    ((8 ≤ length octets) × (BeginsSection octets → ⊥)
    × (is_length_of (kind_of section.order octets) (total_of section.order octets) ≡ false) × (place ≡ 4))
    ⊎ ((IsBegun section.order enhanced_packet_type octets × (24 ≤ length octets)
    × ((interface : DescriptionOf)
    × (slice_get section.interfaces (number32 section.order octets 8) ≡ Some interface))
    × (total_of section.order octets < 32 + padded (number32 section.order octets 20)) × (place ≡ 20))
    ⊎ ((IsBegun section.order description_type octets × (16 ≤ length octets) × (within : ℕ)
    × HasWrongOption section.order (total_of section.order octets - 20)
    (options_there (total_of section.order octets) octets) within × (place ≡ 16 + within))
    ⊎ (IsBlockSoFar section octets × HasOtherEnd section.order octets place)))

-- of a block that is no section header
abbrev pub IsBlockFault : SectionOf → List ℕ → CaptureFault → ℕ → Type 0
IsBlockFault section octets Length place = HasWrongLength section octets place
IsBlockFault section octets Interface place =
    IsBegun section.order enhanced_packet_type octets × (12 ≤ length octets)
    × (slice_get section.interfaces (number32 section.order octets 8) ≡ None) × (place ≡ 8)
IsBlockFault section octets CutOff place =
    (place ≡ 0) × (octets ≢ []) × ((length octets < 8)
    ⊎ (IsBlockSoFar section octets × (length octets < total_of section.order octets)))
IsBlockFault section octets NoCapture place = ⊥
IsBlockFault section octets Version place = ⊥
IsBlockFault section octets ByteOrderMagic place = ⊥

-- ---- any part

-- the magic of a capture stands in front
abbrev pub HasMagic : List ℕ → Type 0
HasMagic octets = ((order : ByteOrder) × IsPcapMagic order octets) ⊎ IsSectionMagic octets

-- no magic stands in front
abbrev pub HasNoMagic : List ℕ → Type 0
HasNoMagic octets =
    (length octets < 4)
    ⊎ ((unit_of (number32 Big octets 0) ≡ None) × (unit_of (number32 Little octets 0) ≡ None)
    × (BeginsSection octets → ⊥))

-- of the octets from the next part on
abbrev pub IsFault : Form → List ℕ → CaptureFault → ℕ → Type 0
IsFault Start octets NoCapture place = (place ≡ 0) × HasNoMagic octets
IsFault Start octets fault place =
    IsPcapFault octets fault place ⊎ (IsSectionMagic octets × IsSectionFault octets fault place)
IsFault (Pcap pcap) octets CutOff place =
    (octets ≢ []) × (length octets < packet_length pcap.order octets) × (place ≡ 0)
IsFault (Pcap pcap) octets fault place = ⊥
IsFault (Section section) octets fault place =
    ((8 ≤ length octets) × BeginsSection octets × IsSectionFault octets fault place)
    ⊎ IsBlockFault section octets fault place
