-- What stands in a section of pcapng: interfaces, and packets that were captured at them (draft-ietf-opsawg-pcapng).
use Rattle.std.specs.Prelude.{◌≡◌, ◌⊎◌, ℕ, ◌+◌, ◌-◌, ◌*◌, ◌^◌, ◌≤◌, ◌==◌, ◌||◌, ℤ, pos, List, [], ◌∷◌, ◌++◌, length}
use Rattle.std.specs.Prelude.{take, slice_range, slice_get, if◌then◌else◌, Option, Some, None, Bool, true, false, not}
use Rattle.std.specs.List.{list_any}
use Rattle.std.specs.Option.{option_map_or}
use Rattle.std.specs.Str.{bytes_eq}
use Rattle.ptp_units.specs.Moment.{Stamp}
use Rattle.capture_file.specs.declared.order.ByteOrder.{ByteOrder}
use Rattle.capture_file.specs.Order.{number16, number32}
use Rattle.capture_file.specs.Clock.{ResolutionOf, resolution_of, microseconds, time_at}
use Rattle.capture_file.specs.Options.{OptionOf, FoundOf, AreOptions, found_in}
use Rattle.capture_file.specs.Name.{is_like_place}
use Rattle.capture_file.specs.Packet.{PacketOf, packet_at}
use Rattle.capture_file.specs.Pcapng.{IsBlock, padded, BeginsSection, description_type, old_packet_type}
use Rattle.capture_file.specs.Pcapng.{simple_packet_type, enhanced_packet_type}

-- an interface: the link type of its packets, how their times are to be read, and its name where it has one of its own
pub record DescriptionOf : Type 0 where
  pub link : ℕ
  pub resolution : ResolutionOf
  pub offset : ℤ
  pub name : Option (List ℕ)

-- a section: the order of its numbers, and the interfaces that were described so far, in order
pub record SectionOf : Type 0 where
  pub order : ByteOrder
  pub interfaces : List DescriptionOf

-- before the first interface
abbrev pub begun : ByteOrder → SectionOf
begun order = record { order = order; interfaces = [] }

-- one more interface
abbrev pub with_interface : DescriptionOf → SectionOf → SectionOf
with_interface d section = record section { interfaces = section.interfaces ++ d ∷ [] }

-- an interface has this name
abbrev pub has_name : List ℕ → DescriptionOf → Bool
has_name name d = option_map_or (bytes_eq name) d.name false

-- a name is an interface's own where it isn't empty or as that of a place, and no earlier one has it
abbrev pub own_name : List DescriptionOf → Option (List ℕ) → Option (List ℕ)
own_name interfaces None = None
own_name interfaces (Some name) =
    if bytes_eq name [] || is_like_place name || list_any (has_name name) interfaces then None else Some name

-- the interface of this link type, by what its options say
abbrev pub description_of : (link : ℕ) → List DescriptionOf → FoundOf → DescriptionOf
description_of link interfaces found = record {
  link = link;
  resolution = option_map_or resolution_of found.resolution microseconds;
  offset = option_map_or (λ seconds. seconds) found.offset (pos 0);
  name = own_name interfaces found.name;
}

-- the most octets of a description's options that are looked at
abbrev pub options_limit : ℕ
options_limit = 65584

-- of a description of so many octets those of its options that are looked at, as far as they are there
abbrev pub options_there : (total : ℕ) → List ℕ → List ℕ
options_there total octets = take options_limit (slice_range octets 16 (total - 4))

-- an interface description
pub record IsDescription (section : SectionOf) (octets : List ℕ) (d : DescriptionOf) : Type 0 where
  pub block : IsBlock section.order description_type octets
  pub options : List OptionOf
  pub are : AreOptions section.order (length octets - 20) options (options_there (length octets) octets)
  pub said : d ≡ description_of (number16 section.order octets 8) section.interfaces (found_in section.order options)

-- the time of an enhanced packet: its two halves, as the interface counts
abbrev pub packet_time : DescriptionOf → ByteOrder → List ℕ → Option Stamp
packet_time d order octets =
    time_at d.resolution d.offset (number32 order octets 12 * 2 ^ 32 + number32 order octets 16)

-- an enhanced packet: 28 octets, those that were captured, padding and options that aren't looked at
pub record IsEnhanced (section : SectionOf) (octets : List ℕ) (packet : PacketOf) : Type 0 where
  pub block : IsBlock section.order enhanced_packet_type octets
  pub interface : DescriptionOf
  pub described : slice_get section.interfaces (number32 section.order octets 8) ≡ Some interface
  pub fits : 32 + padded (number32 section.order octets 20) ≤ length octets
  pub packet_is : packet ≡ packet_at
      (packet_time interface section.order octets)
      (record { place = number32 section.order octets 8; name = interface.name })
      interface.link
      (slice_range octets 28 (28 + number32 section.order octets 20))

-- a simple packet, or one of the old kind
abbrev pub IsSimple : SectionOf → List ℕ → Type 0
IsSimple section octets =
    IsBlock section.order simple_packet_type octets ⊎ IsBlock section.order old_packet_type octets

-- the type of a block that is passed over
abbrev pub is_other : (kind : ℕ) → Bool
is_other kind =
    not (kind == description_type || kind == old_packet_type || kind == simple_packet_type || kind == enhanced_packet_type)

-- a block that is passed over
abbrev pub IsOther : SectionOf → List ℕ → Type 0
IsOther section octets =
    (kind : ℕ) × (is_other kind ≡ true) × (BeginsSection octets → ⊥) × IsBlock section.order kind octets
