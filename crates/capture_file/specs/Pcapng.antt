-- The blocks of pcapng (draft-ietf-opsawg-pcapng).
use Rattle.std.specs.Prelude.{◌≡◌, ℕ, ◌+◌, ◌-◌, ◌*◌, ◌/◌, ◌%◌, nat_le, ◌==◌, ◌&&◌, ◌||◌}
use Rattle.std.specs.Prelude.{List, length, if◌then◌else◌}
use Rattle.std.specs.Prelude.{Option, Some, None, Bool, true}
use Rattle.capture_file.specs.declared.order.ByteOrder.{ByteOrder}
use Rattle.capture_file.specs.declared.order.ByteOrder.TheVariants.{Big, Little}
use Rattle.capture_file.specs.Order.{number16, number32}

-- the types of blocks: a section header, an interface description, a packet of the old kind, a simple packet, an
-- enhanced packet
abbrev pub section_type : ℕ
section_type = 168627466

abbrev pub description_type : ℕ
description_type = 1

abbrev pub old_packet_type : ℕ
old_packet_type = 2

abbrev pub simple_packet_type : ℕ
simple_packet_type = 3

abbrev pub enhanced_packet_type : ℕ
enhanced_packet_type = 6

-- the least total length of a block of a type
abbrev pub least_of : (kind : ℕ) → ℕ
least_of kind =
    if kind == section_type then 28
    else if kind == description_type then 20
    else if kind == simple_packet_type then 16
    else if kind == enhanced_packet_type then 32
    else 12

-- a total length that a block of a type may have
abbrev pub is_length_of : (kind total : ℕ) → Bool
is_length_of kind total = nat_le (least_of kind) total && total % 4 == 0

-- a length with the padding behind it, up to a multiple of four
abbrev pub padded : ℕ → ℕ
padded size = (size + 3) / 4 * 4

-- the order of a section, in which octets 8 to 11 of its header are 1a2b3c4d
abbrev pub order_of_magic : List ℕ → Option ByteOrder
order_of_magic octets =
    if number32 Big octets 8 == 439041101 then Some Big
    else if number32 Little octets 8 == 439041101 then Some Little
    else None

-- the version of a section is 1.0 or 1.2
abbrev pub is_section_version : ByteOrder → List ℕ → Bool
is_section_version order octets =
    number16 order octets 12 == 1 && (number16 order octets 14 == 0 || number16 order octets 14 == 2)

-- the octets are a block of a type, in this order
pub record IsBlock (order : ByteOrder) (kind : ℕ) (octets : List ℕ) : Type 0 where
  pub kind_is : number32 order octets 0 ≡ kind
  pub size : is_length_of kind (length octets) ≡ true
  pub total_length : number32 order octets 4 ≡ length octets
  pub total_length_again : number32 order octets (length octets - 4) ≡ length octets

-- the octets begin with a section header, whose type reads alike in both orders
abbrev pub BeginsSection : List ℕ → Type 0
BeginsSection octets = number32 Big octets 0 ≡ section_type

-- a section header; the section's length and its options aren't looked at
pub record IsSection (order : ByteOrder) (octets : List ℕ) : Type 0 where
  pub kind_is : BeginsSection octets
  pub magic : order_of_magic octets ≡ Some order
  pub size : is_length_of section_type (length octets) ≡ true
  pub version : is_section_version order octets ≡ true
  pub total_length : number32 order octets 4 ≡ length octets
  pub total_length_again : number32 order octets (length octets - 4) ≡ length octets
