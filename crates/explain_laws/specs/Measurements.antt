-- What the JSON of a measurement is read as. `laws::measurements_are_json` promises it.
use Rattle.std.specs.Prelude.{◌≡◌, ◌<◌, ◌^◌, ℕ, ℤ, pos, negsuc, Bool, true, ◌&&◌, nat_lt, List, ◌++◌, codes, Some}
use Rattle.std.specs.Fmt.{signed_decimal}
use Rattle.std.specs.List.{list_all}
use Rattle.serde_json.specs.Data.{Data, string, object, member, no_members}
use Rattle.ptp_units.specs.Nanoseconds.{nanoseconds_text}
use Rattle.schedule_lines.specs.Json.{value_in}
use Rattle.schedule_lines.specs.Ranges.{HasTags}
use Rattle.schedule_lines.specs.Written.{whole, tags_data}
use Rattle.recording_lines.specs.Measurement.{Measured, by_text, json_text}
use Rattle.recording_lines.specs.Timed.{is_time_octet}

-- a number of 128 bits, with a sign
abbrev pub IsOf128Bits : ℤ → Type 0
IsOf128Bits (pos n) = n < 2 ^ 127
IsOf128Bits (negsuc n) = n < 2 ^ 127

-- the numbers of a measurement have 64 bits, its results 128, and its time is digits and points
pub record IsWithinRange (m : Measured) : Type 0 where
  pub line : m.line < 2 ^ 64
  pub tags : HasTags m.report
  pub offset : IsOf128Bits m.report.offset2
  pub path : IsOf128Bits m.report.path2
  pub time : list_all is_time_octet m.time ≡ true

-- a measurement as a value: an object of these members
abbrev pub measured_data : Measured → Data
measured_data m = object
    (member (codes "by") (string (by_text m.own m.by))
    (member (codes "line") (whole m.line)
    (member (codes "offset") (string (nanoseconds_text m.report.offset2))
    (member (codes "offset2") (string (signed_decimal m.report.offset2))
    (member (codes "path") (string (nanoseconds_text m.report.path2))
    (member (codes "path2") (string (signed_decimal m.report.path2))
    (member (codes "tags") (tags_data m.report)
    (member (codes "time") (string m.time) no_members))))))))

-- an octet of ASCII that is no control character
abbrev pub is_printed : ℕ → Bool
is_printed octet = nat_lt 31 octet && nat_lt octet 127

-- the JSON of a measurement is one line, which is read as that value
abbrev pub EachMeasurementIsJson : Type 0
EachMeasurementIsJson =
    (m : Measured) → IsWithinRange m
    → (line : List ℕ) × (json_text m ≡ line ++ codes "\n") × (list_all is_printed line ≡ true)
    × (value_in line ≡ Some (measured_data m))
