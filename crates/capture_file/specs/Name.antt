-- The name by which an interface is asked for.
use Rattle.std.specs.Prelude.{ℕ, nat_le, Bool, true, not, ◌&&◌, List, [], ◌∷◌, ◌++◌, length, take, drop, replicate, codes, decimal}
use Rattle.std.specs.Prelude.{if◌then◌else◌, Option, Some, None}
use Rattle.std.specs.Char.{is_ascii_digit}
use Rattle.std.specs.List.{list_all}
use Rattle.std.specs.Str.{bytes_eq}
use Rattle.capture_file.specs.declared.name.InterfaceName.{InterfaceName}
use Rattle.capture_file.specs.Packet.{InterfaceOf}

-- the most octets of a name
abbrev pub name_limit : ℕ
name_limit = 255

-- the octets of a name
abbrev pub name_octets : InterfaceName → List ℕ
name_octets name = take name.size name.room

-- the name that is these octets, where they are 1 to 255; zeros are kept behind them
abbrev pub interface_name : List ℕ → Option InterfaceName
interface_name [] = None
interface_name (x ∷ octets) =
    if nat_le (length (x ∷ octets)) name_limit
    then Some (record {
      room = x ∷ octets ++ drop (length (x ∷ octets)) (replicate name_limit 0);
      size = length (x ∷ octets);
    })
    else None

-- what an interface of this place is called that has no name of its own
abbrev pub place_text : ℕ → List ℕ
place_text place = codes "if" ++ decimal place

-- a name as that of a place: `if`, and digits alone
abbrev pub is_like_place : List ℕ → Bool
is_like_place name =
    bytes_eq (take 2 name) (codes "if") && not (bytes_eq (drop 2 name) []) && list_all is_ascii_digit (drop 2 name)

-- what an interface is called
abbrev pub called : (place : ℕ) → (own : Option (List ℕ)) → List ℕ
called place None = place_text place
called place (Some own) = own

abbrev pub name_of : InterfaceOf → List ℕ
name_of interface = called interface.place interface.name

-- an interface is called so
abbrev pub is_called : List ℕ → InterfaceOf → Bool
is_called name interface = bytes_eq name (name_of interface)

-- an interface is the one that is asked for, if one is
abbrev pub is_asked : Option InterfaceName → InterfaceOf → Bool
is_asked None interface = true
is_asked (Some name) interface = is_called (name_octets name) interface
