-- What interfaces are called in a table, and in a call.
use Rattle.std.specs.Prelude.{ℕ, nat_lt, ◌==◌, ◌||◌, Bool, if◌then◌else◌}
use Rattle.std.specs.Prelude.{List, [], ◌++◌, length, take, reverse, flat_map, slice_get, codes, Option, Some, None, encode_utf8_all}
use Rattle.std.specs.Char.{is_ascii_alphanumeric}
use Rattle.std.specs.Char.Escape.{escape_ascii}
use Rattle.std.specs.Fmt.{decimal}
use Rattle.std.specs.List.{list_all, list_any}
use Rattle.capture_file.specs.Packet.{InterfaceOf}

-- the interface of this index, in the order in which they were met
abbrev pub interface_at : List InterfaceOf → (index : Option ℕ) → Option InterfaceOf
interface_at interfaces None = None
interface_at interfaces (Some index) = slice_get (reverse interfaces) index

-- octets, with escapes where they aren't printable
abbrev pub escape : ℕ → List ℕ
escape octet = encode_utf8_all (escape_ascii octet)

abbrev pub escaped : List ℕ → List ℕ
escaped octets = flat_map escape octets

-- ---- in a table
-- the most octets of a name that a row shows
abbrev pub shown_limit : ℕ
shown_limit = 64

-- two dots stand behind what is shown of a longer name
abbrev pub name_text : (name : List ℕ) → List ℕ
name_text name = escaped (take shown_limit name) ++ (if nat_lt shown_limit (length name) then codes ".." else [])

-- an interface that has no name of its own, by its place in its section
abbrev pub place_text : (place : ℕ) → List ℕ
place_text place = codes "if" ++ decimal place

abbrev pub label_text_by : (name : Option (List ℕ)) → (place : ℕ) → List ℕ
label_text_by (Some name) place = name_text name
label_text_by None place = place_text place

abbrev pub label_text : InterfaceOf → List ℕ
label_text i = label_text_by i.name i.place

-- ---- in a call
-- an octet stands for itself in a shell
abbrev pub is_plain : ℕ → Bool
is_plain octet = is_ascii_alphanumeric octet || list_any (λ other. octet == other) (codes "._-:@+")

-- a whole name, in quotes where a shell would take an octet for something else
abbrev pub name_argument : (name : List ℕ) → List ℕ
name_argument name = if list_all is_plain name then escaped name else codes "$'" ++ escaped name ++ codes "'"

abbrev pub argument_text_by : (name : Option (List ℕ)) → (place : ℕ) → List ℕ
argument_text_by (Some name) place = name_argument name
argument_text_by None place = place_text place

abbrev pub argument_text : InterfaceOf → List ℕ
argument_text i = argument_text_by i.name i.place
