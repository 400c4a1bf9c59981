-- A portIdentity as text, in the two forms that are in use.
use Rattle.std.specs.Prelude.{ℕ, ◌==◌, ◌&&◌, ◌++◌, Bool, List, Option, Some, None, Result, Ok, Err, false}
use Rattle.std.specs.Prelude.{if◌then◌else◌, drop, take, option_and_then, option_map, slice_get}
use Rattle.std.specs.Option.{option_map_or}
use Rattle.hex.specs.Hex.{decode_sized}
use Rattle.hex.specs.declared.error.FromHexError.{FromHexError}
use Rattle.event_codec.specs.declared.port.PortIdentity.{PortIdentity}
use Rattle.command_line.specs.Number.{number_of, up_to}

-- whether the text has this character at a place
abbrev pub has_at : List ℕ → ℕ → ℕ → Bool
has_at text place mark = option_map_or (λ c. c == mark) (slice_get text place) false

-- the digits of clockIdentity and those of portNumber: 16 digits, `/` (47) and the number, as `ptpx show` writes them,
-- or 6 digits, `.` (46), 4 digits, `.`, 6 digits, `-` (45) and the number, as linuxptp's pmc does
abbrev pub parts_of : List ℕ → Option (List ℕ × List ℕ)
parts_of text =
    if has_at text 16 47 then Some (take 16 text, drop 17 text)
    else if has_at text 6 46 && (has_at text 11 46 && has_at text 18 45)
    then Some (take 6 text ++ take 4 (drop 7 text) ++ take 6 (drop 12 text), drop 19 text)
    else None

-- the portIdentity, where there is such a clockIdentity and such a portNumber
abbrev pub identity_of_parts : Result (List ℕ) FromHexError → Option ℕ → Option PortIdentity
identity_of_parts (Ok clock) number = option_map (λ port. record { clock = clock; port = port }) number
identity_of_parts (Err e) number = None

-- the portIdentity that a text writes: 8 octets in hexadecimal digits of either case, and a number of 1 to 5 decimal
-- digits that is at most 65535
abbrev pub port_identity_of : List ℕ → Option PortIdentity
port_identity_of text = option_and_then (λ parts.
    identity_of_parts (decode_sized parts.0 8) (option_and_then (up_to 65535) (number_of 5 parts.1))) (parts_of text)
