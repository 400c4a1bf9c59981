-- A crossing as JSON and as a row of the table.
use Rattle.std.specs.Prelude.{ℕ, ℤ, ◌+ℤ◌, List, ◌++◌, codes}
use Rattle.std.specs.Fmt.{decimal}
use Rattle.ptp_units.specs.Nanoseconds.{nanoseconds_text}
use Rattle.recording_lines.specs.Measurement.{follow_text}
use Rattle.tap_crossing.specs.declared.crossing.Crossing.{Crossing}
use Rattle.tap_crossing.specs.declared.sighting.Kind.{Kind}
use Rattle.tap_crossing.specs.declared.sighting.Kind.TheVariants as kinds
use Rattle.tap_sums.specs.declared.crossed.Crossed.{Crossed}

-- a crossing, the time of its event message at its first tap as it stands there, and the names of the taps
pub record Told : Type 0 where
  pub crossing : Crossing
  pub time : List ℕ
  pub from : List ℕ
  pub to : List ℕ

abbrev pub crossed_of : Crossed → Told
crossed_of x = record { crossing = x.crossing; time = x.time.now; from = x.from.now; to = x.to.now }

-- the name of a kind
abbrev pub kind_text : Kind → List ℕ
kind_text kinds.Sync = codes "sync"
kind_text kinds.DelayReq = codes "delay_req"

-- units as nanoseconds: a unit has two halves
abbrev pub units_text : ℤ → List ℕ
units_text units = nanoseconds_text (units +ℤ units)

-- the first keys of a line of JSON
abbrev pub json_front : Told → List ℕ
json_front x =
    codes "{\"corrected\":\"" ++ units_text x.crossing.corrected
    ++ codes "\",\"from\":\"" ++ x.from
    ++ codes "\",\"kind\":\"" ++ kind_text x.crossing.kind
    ++ codes "\""

-- the lines of its messages
abbrev pub json_lines : Told → List ℕ
json_lines x =
    codes ",\"lines\":[" ++ decimal x.crossing.first_line
    ++ codes "," ++ decimal x.crossing.second_line
    ++ codes "," ++ follow_text x.crossing.from_line
    ++ codes "," ++ follow_text x.crossing.to_line
    ++ codes "]"

-- its other keys
abbrev pub json_back : Told → List ℕ
json_back x =
    codes ",\"number\":" ++ decimal x.crossing.number.0
    ++ codes ",\"rest\":\"" ++ units_text x.crossing.rest
    ++ codes "\",\"taken\":\"" ++ units_text x.crossing.taken
    ++ codes "\",\"time\":\"" ++ x.time
    ++ codes "\",\"to\":\"" ++ x.to
    ++ codes "\"}\n"

-- a crossing as JSON, in one line
abbrev pub json_text : Told → List ℕ
json_text x = json_front x ++ json_lines x ++ json_back x

-- the line above all rows
abbrev pub table_head : List ℕ
table_head = codes "time,kind,number,taken_ns,corrected_ns,rest_ns\n"

-- a crossing as a row of the table
abbrev pub row_text : Told → List ℕ
row_text x =
    x.time
    ++ codes "," ++ kind_text x.crossing.kind
    ++ codes "," ++ decimal x.crossing.number.0
    ++ codes "," ++ units_text x.crossing.taken
    ++ codes "," ++ units_text x.crossing.corrected
    ++ codes "," ++ units_text x.crossing.rest
    ++ codes "\n"
