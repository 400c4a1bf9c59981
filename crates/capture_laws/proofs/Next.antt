-- What stands next, as a function of the octets: a part, or a fault at a place.
use Rattle.std.proofs.Common.{ℕ, zero, suc, ◌+◌, ◌-◌, ◌%◌, ◌^◌, List, [], ◌∷◌, length, take, drop, Bool, true, false, ltb, leb, eqb, Option, Some, None}
use Rattle.std.specs.Prelude.{◌||◌, not, slice_get, slice_range}
use Rattle.capture_file.specs.declared.fault.CaptureFault.{CaptureFault}
use Rattle.capture_file.specs.declared.fault.CaptureFault.TheVariants.{NoCapture, Version, ByteOrderMagic, Length, Interface, CutOff}
use Rattle.capture_file.specs.declared.order.ByteOrder.{ByteOrder}
use Rattle.capture_file.specs.declared.order.ByteOrder.TheVariants.{Big, Little}
use Rattle.capture_file.specs.declared.pcap.FractionUnit.{FractionUnit}
use Rattle.capture_file.specs.Order.{number16, number32}
use Rattle.capture_file.specs.Options.{OptionOf, is_size_of, found_in}
use Rattle.capture_file.specs.Packet.{PacketOf, Simple, packet_at}
use Rattle.capture_file.specs.Parts.{Form, Start, Pcap, Section, Part}
use Rattle.capture_file.specs.Pcap.{PcapOf, unit_of, is_pcap_version, pcap_time, pcap_interface}
use Rattle.capture_file.specs.Pcapng.{section_type, description_type, enhanced_packet_type, simple_packet_type, old_packet_type, padded}
use Rattle.capture_file.specs.Pcapng.{is_length_of, order_of_magic, is_section_version}
use Rattle.capture_file.specs.Section.{DescriptionOf, SectionOf, begun, with_interface, description_of, options_there, packet_time}
use Rattle.capture_file.specs.Wrong.{total_of, kind_of, packet_length}

pub data Next : Type 0 where
  Whole : Part → Next
  Wrong : CaptureFault → (place : ℕ) → Next

-- so many of the octets are a part
abbrev pub whole : ℕ → List ℕ → Option PacketOf → Form → Next
whole size octets packet later = Whole (record { octets = take size octets; packet = packet; later = later })

-- ---- the end of a block

abbrev pub ending_by : (short again : Bool) → (total : ℕ) → List ℕ → Option PacketOf → Form → Next
ending_by true again total octets packet later = Wrong CutOff 0
ending_by false false total octets packet later = Wrong Length (total - 4)
ending_by false true total octets packet later = whole total octets packet later

abbrev pub ending : (total : ℕ) → ByteOrder → List ℕ → Option PacketOf → Form → Next
ending total order octets packet later =
    ending_by (ltb (length octets) total) (eqb (number32 order octets (total - 4)) total) total octets packet later

-- ---- a section header

abbrev pub header_in : (size short version : Bool) → ByteOrder → List ℕ → Next
header_in false short version order octets = Wrong Length 4
header_in true true version order octets = Wrong CutOff 0
header_in true false false order octets = Wrong Version 12
header_in true false true order octets = ending (total_of order octets) order octets None (Section (begun order))

abbrev pub header_by : (short : Bool) → Option ByteOrder → List ℕ → Next
header_by true order octets = Wrong CutOff 0
header_by false None octets = Wrong ByteOrderMagic 8
header_by false (Some order) octets =
    header_in (is_length_of section_type (total_of order octets)) (ltb (length octets) 16) (is_section_version order octets) order octets

abbrev pub header : List ℕ → Next
header octets = header_by (ltb (length octets) 12) (order_of_magic octets) octets

-- ---- the start

abbrev pub head_by : (short version cut : Bool) → ByteOrder → FractionUnit → List ℕ → Next
head_by true version cut order unit octets = Wrong CutOff 0
head_by false false cut order unit octets = Wrong Version 4
head_by false true true order unit octets = Wrong CutOff 0
head_by false true false order unit octets =
    whole 24 octets None (Pcap (record { order = order; unit = unit; link = number32 order octets 20 % 2 ^ 16 }))

abbrev pub head : ByteOrder → FractionUnit → List ℕ → Next
head order unit octets = head_by (ltb (length octets) 8) (is_pcap_version order octets) (ltb (length octets) 24) order unit octets

abbrev pub start_by : (short section : Bool) → (big little : Option FractionUnit) → List ℕ → Next
start_by true section big little octets = Wrong NoCapture 0
start_by false true big little octets = header octets
start_by false false (Some unit) little octets = head Big unit octets
start_by false false None (Some unit) octets = head Little unit octets
start_by false false None None octets = Wrong NoCapture 0

abbrev pub start : List ℕ → Next
start octets =
    start_by (ltb (length octets) 4) (eqb (number32 Big octets 0) section_type) (unit_of (number32 Big octets 0)) (unit_of (number32 Little octets 0)) octets

-- ---- a packet of a pcap

abbrev pub packet_by : (short : Bool) → PcapOf → List ℕ → Next
packet_by true pcap octets = Wrong CutOff 0
packet_by false pcap octets =
    let size = 16 + number32 pcap.order octets 8 in
    whole size octets
    (Some (packet_at (pcap_time pcap.unit (number32 pcap.order octets 0) (number32 pcap.order octets 4)) pcap_interface pcap.link (drop 16 (take size octets))))
    (Pcap pcap)

abbrev pub packet : PcapOf → List ℕ → Next
packet pcap octets = packet_by (ltb (length octets) (packet_length pcap.order octets)) pcap octets

-- ---- an interface description

-- of the option at the front: its length, and itself
abbrev pub length_in : ByteOrder → List ℕ → ℕ
length_in order octets = 4 + padded (number16 order octets 2)

abbrev pub option_in : ByteOrder → List ℕ → OptionOf
option_in order octets =
    record { code = number16 order octets 0; value = slice_range octets 4 (4 + number16 order octets 2) }

-- whether no option is looked for, one is wrong, and one is cut off
abbrev pub is_last : ByteOrder → (left : ℕ) → List ℕ → Bool
is_last order left octets = eqb left 0 || (ltb (length octets) 4 || eqb (number16 order octets 0) 0)

abbrev pub is_wrong : ByteOrder → (left : ℕ) → List ℕ → Bool
is_wrong order left octets = ltb left (length_in order octets) || not (is_size_of (number16 order octets 0) (number16 order octets 2))

-- how many octets were left where an option is wrong, and the options before
pub record Scan : Type 0 where
  pub wrong : Option ℕ
  pub options : List OptionOf

abbrev pub scan_by : (last wrong cut : Bool) → (left : ℕ) → (seen : List OptionOf) → (more : Scan) → Scan
scan_by true wrong cut left seen more = record { wrong = None; options = seen }
scan_by false true cut left seen more = record { wrong = Some left; options = seen }
scan_by false false true left seen more = record { wrong = None; options = seen }
scan_by false false false left seen more = more

abbrev pub scan : ByteOrder → (steps left : ℕ) → List ℕ → (seen : List OptionOf) → Scan
scan order zero left octets seen = record { wrong = None; options = seen }
scan order (suc steps) left octets seen =
    scan_by (is_last order left octets) (is_wrong order left octets) (ltb (length octets) (length_in order octets)) left seen
    (scan order steps (left - length_in order octets) (drop (length_in order octets) octets) (option_in order octets ∷ seen))

abbrev pub description_by : (short : Bool) → (wrong : Option ℕ) → (options : List OptionOf) → SectionOf → List ℕ → Next
description_by true wrong options s octets = Wrong CutOff 0
description_by false (Some left) options s octets = Wrong Length (16 + (total_of s.order octets - 20 + 2 - left))
description_by false None options s octets =
    ending (total_of s.order octets) s.order octets None
    (Section (with_interface (description_of (number16 s.order octets 8) s.interfaces (found_in s.order options)) s))

abbrev pub scanned : SectionOf → List ℕ → Scan
scanned s octets =
    scan s.order (total_of s.order octets - 20) (total_of s.order octets - 20) (options_there (total_of s.order octets) octets) []

abbrev pub description : SectionOf → List ℕ → Next
description s octets = description_by (ltb (length octets) 16) (scanned s octets).wrong (scanned s octets).options s octets

-- ---- an enhanced packet

abbrev pub enhanced_by : (short : Bool) → Option DescriptionOf → (cut fits : Bool) → SectionOf → List ℕ → Next
enhanced_by true interface cut fits s octets = Wrong CutOff 0
enhanced_by false None cut fits s octets = Wrong Interface 8
enhanced_by false (Some interface) true fits s octets = Wrong CutOff 0
enhanced_by false (Some interface) false false s octets = Wrong Length 20
enhanced_by false (Some interface) false true s octets =
    ending (total_of s.order octets) s.order octets
    (Some (packet_at
    (packet_time interface s.order octets)
    (record { place = number32 s.order octets 8; name = interface.name })
    interface.link
    (slice_range octets 28 (28 + number32 s.order octets 20))))
    (Section s)

abbrev pub enhanced : SectionOf → List ℕ → Next
enhanced s octets =
    enhanced_by (ltb (length octets) 12) (slice_get s.interfaces (number32 s.order octets 8)) (ltb (length octets) 24)
    (leb (32 + padded (number32 s.order octets 20)) (total_of s.order octets)) s octets

-- ---- any block

abbrev pub block_by : (enhanced_packet interface simple : Bool) → SectionOf → List ℕ → Next
block_by true interface simple s octets = enhanced s octets
block_by false true simple s octets = description s octets
block_by false false true s octets = ending (total_of s.order octets) s.order octets (Some Simple) (Section s)
block_by false false false s octets = ending (total_of s.order octets) s.order octets None (Section s)

abbrev pub block : (kind : ℕ) → SectionOf → List ℕ → Next
block kind s octets =
    block_by (eqb kind enhanced_packet_type) (eqb kind description_type) (eqb kind simple_packet_type || eqb kind old_packet_type) s octets

abbrev pub section_by : (short begins size : Bool) → SectionOf → List ℕ → Next
section_by true begins size s octets = Wrong CutOff 0
section_by false true size s octets = header octets
section_by false false false s octets = Wrong Length 4
section_by false false true s octets = block (kind_of s.order octets) s octets

abbrev pub section : SectionOf → List ℕ → Next
section s octets =
    section_by (ltb (length octets) 8) (eqb (number32 Big octets 0) section_type)
    (is_length_of (kind_of s.order octets) (total_of s.order octets)) s octets

-- ---- what stands next

abbrev pub next : Form → List ℕ → Next
next Start octets = start octets
next (Pcap pcap) octets = packet pcap octets
next (Section s) octets = section s octets
