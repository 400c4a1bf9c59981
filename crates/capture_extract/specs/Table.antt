-- The rows of the messages of a capture, and what isn't in a row. Lists of messages and of interfaces have the newest in front.
use Rattle.std.specs.Prelude.{ℕ, ◌+◌, ◌==◌, Bool, false, nat_lt, if◌then◌else◌}
use Rattle.std.specs.Prelude.{List, [], ◌∷◌, length, Option, Some, None, Result, Ok, Err}
use Rattle.std.specs.BTreeMap.{insert_entry, is_at}
use Rattle.std.specs.Map.{lookup, set_value}
use Rattle.std.specs.declared.cmp.Ordering.{Ordering}
use Rattle.std.specs.Str.{bytes_eq}
use Rattle.capture_file.specs.Packet.{InterfaceOf}
use Rattle.datagram_source.specs.Datagram.{DatagramOf, PlaceOf, Line, Tap, Interface}
use Rattle.datagram_source.specs.declared.stream.Stream.{Stream}
use Rattle.capture_extract.specs.declared.header.Listed.{Listed}
use Rattle.capture_extract.specs.declared.header.Unlisted.{Unlisted}
use Rattle.capture_extract.specs.declared.header.Unlisted.TheVariants.{OtherVersion, TooShort}
use Rattle.capture_extract.specs.declared.row.RowKey.{RowKey}
use Rattle.capture_extract.specs.contracts.row.RowKeyOrd.TheImpl as row_key_ord
use Rattle.capture_extract.specs.Message.{read}

-- rows stand in the order of what their messages have in common: field by field, as `RowKey` has them
abbrev pub key_order : RowKey → RowKey → Ordering
key_order = (row_key_ord.ghosts).cmp

-- the most rows
abbrev pub rows_limit : ℕ
rows_limit = 1024

-- the messages of each row; the interfaces, of which each has a row; how many messages would have made further rows; and how many
-- datagrams aren't listed
pub record TableOf : Type 0 where
  pub interfaces : List InterfaceOf
  pub groups : List (RowKey × List Listed)
  pub further : ℕ
  pub other_version : ℕ
  pub too_short : ℕ

abbrev pub no_table : TableOf
no_table = record { interfaces = []; groups = []; further = 0; other_version = 0; too_short = 0 }

-- there is room for a row
abbrev pub has_room : TableOf → Bool
has_room t = nat_lt (length t.groups) rows_limit

-- ---- interfaces
-- those that are called alike are one: by names of their own, or by places in their sections
abbrev pub is_alike_by : (own other : Option (List ℕ)) → (place place' : ℕ) → Bool
is_alike_by (Some own) (Some other) place place' = bytes_eq own other
is_alike_by None None place place' = place == place'
is_alike_by _ _ place place' = false

abbrev pub is_alike : InterfaceOf → InterfaceOf → Bool
is_alike one other = is_alike_by one.name other.name one.place other.place

-- the index of an interface: how many were met before it
abbrev pub index_of : InterfaceOf → List InterfaceOf → Option ℕ
index_of i [] = None
index_of i (met ∷ earlier) = if is_alike i met then Some (length earlier) else index_of i earlier

-- that which an interface has or gets; none where it is new and there is no room for a row of it
abbrev pub index_or_next : Option ℕ → TableOf → Option ℕ
index_or_next (Some index) t = Some index
index_or_next None t = if has_room t then Some (length t.interfaces) else None

abbrev pub index_for : InterfaceOf → TableOf → Option ℕ
index_for i t = index_or_next (index_of i t.interfaces) t

-- a new interface is added
abbrev pub met_by : Option ℕ → InterfaceOf → TableOf → TableOf
met_by (Some index) i t = t
met_by None i t = if has_room t then record t { interfaces = i ∷ t.interfaces } else t

abbrev pub met : InterfaceOf → TableOf → TableOf
met i t = met_by (index_of i t.interfaces) i t

-- ---- rows
-- a message of one more row than there is room for
abbrev pub passed : TableOf → TableOf
passed t = record t { further = t.further + 1 }

-- the messages of a row
abbrev pub group_of : RowKey → TableOf → Option (List Listed)
group_of key t = lookup (is_at (key_order key)) t.groups

-- a message is one more of its row, or makes that row
abbrev pub counted_by : Option (List Listed) → RowKey → Listed → TableOf → TableOf
counted_by (Some ms) key m t = record t { groups = set_value (is_at (key_order key)) t.groups (m ∷ ms) }
counted_by None key m t =
    if has_room t then record t { groups = insert_entry key_order t.groups key (m ∷ []) } else passed t

abbrev pub counted : RowKey → Listed → TableOf → TableOf
counted key m t = counted_by (group_of key t) key m t

-- what a message has in common with the others of its row
abbrev pub key_of : (interface : Option ℕ) → Option Stream → Listed → RowKey
key_of interface stream m = record {
  interface = interface;
  stream = stream;
  domain = m.header.domain;
  source = m.header.source;
  message = m.message;
  requesting = m.requesting;
}

abbrev pub counted_at : (index : Option ℕ) → Stream → Listed → TableOf → TableOf
counted_at (Some index) stream m t = counted (key_of (Some index) (Some stream) m) m t
counted_at None stream m t = passed t

-- a message that was met at this place
abbrev pub with_message : PlaceOf → Listed → TableOf → TableOf
with_message (Interface i stream) m t = counted_at (index_for i t) stream m (met i t)
with_message (Tap name) m t = counted (key_of None None m) m t
with_message Line m t = counted (key_of None None m) m t

abbrev pub with_read : Result Listed Unlisted → PlaceOf → TableOf → TableOf
with_read (Ok m) place t = with_message place m t
with_read (Err OtherVersion) place t = record t { other_version = t.other_version + 1 }
with_read (Err TooShort) place t = record t { too_short = t.too_short + 1 }

-- one more datagram
abbrev pub with_datagram : DatagramOf → TableOf → TableOf
with_datagram d t = with_read (read d) d.place t

-- the table of datagrams: their messages by rows
abbrev pub table_of : List DatagramOf → TableOf
table_of [] = no_table
table_of (d ∷ earlier) = with_datagram d (table_of earlier)
